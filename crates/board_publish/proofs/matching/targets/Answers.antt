use Rattle.std.proofs.Common.{List, sym, subst}
use Rattle.std.proofs.lemmas.Result.{IfOk-weaker}
use Rattle.json_text.specs.View.{tree_of}
use Rattle.rule_table.specs.RuleSet.{rules_of}
use Rattle.rule_automaton.specs.View.{rules_of as patterns_of}
use Rattle.router_requests.specs.Matching.{AreMatched}
use Rattle.router_requests.specs.declared.seen.SeenTarget.{SeenTarget}
use Rattle.board_publish.specs.MatcherView.{Matcher}
use Rattle.board_publish.specs.Matchers.{HasRule, enabled_at}
use Rattle.board_publish.proofs.FoundLemmas.{found_matched}
use Rattle.board_publish.proofs.NumberLemmas.{patterns_below}
use Rattle.board_publish.proofs.matching.targets.Goals as goal

pub matches-requires-clause-marks : goal.matches-requires-clause-marks
matches-requires-clause-marks c =
    let inside = c.matcher.inside in
    patterns_below (patterns_of inside.automaton) inside.entered inside.places _ c.matcher.invariant c.in_ok-marks.ensures

pub returns : goal.returns
returns c =
    let inside = c.matcher.inside in
    let set = c.args.set.now in
    let bus = c.args.bus.now in
    let matcher : Matcher =
    record { bus = inside.bus; patterns = patterns_of inside.automaton; entered = inside.entered; places = inside.places } in
    let event = tree_of c.args.event.now in
    IfOk-weaker c.marked_targets.result _ _
    (λ targets is. subst (λ (ts : List SeenTarget). AreMatched (rules_of bus set) event ts) (sym is)
    (found_matched set bus matcher event c.in_ok-marks.marks c.matches.new.marks c.requires.sound c.matcher.invariant.order c.matches.ensures
    (λ name. subst (λ (m : Matcher). HasRule m name (enabled_at bus name set)) (sym c.matcher.view_is) (c.requires.known name))))
    c.marked_targets.ensures
