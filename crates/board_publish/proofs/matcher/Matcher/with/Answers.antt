use Rattle.std.proofs.Common.{◌≡◌, None, Some, sym, subst}
use Rattle.rule_automaton.specs.View.{rules_of}
use Rattle.board_publish.specs.Entered.{entered_as}
use Rattle.board_publish.specs.MatcherView.{Matcher}
use Rattle.board_publish.specs.Matchers.{Enters}
use Rattle.board_publish.specs.declared.entered.Entered.{Entered}
use Rattle.board_publish.proofs.MatcherLemmas.{numbered_more, enters_more}
use Rattle.board_publish.proofs.matcher.Matcher.with.Goals as goal

pub invariant_of-result : goal.invariant_of-result
invariant_of-result c =
    let old = c.self.inside in
    let row : Entered = record { name = c.in_ok-name.name; number = c.in_ok-number.number } in
    numbered_more (rules_of old.automaton) (rules_of c.in_ok-automaton.automaton) old.entered c.in_ok-entered.entered old.places c.in_ok-places.places row
    c.args.pattern.now c.args.name.now c.self.invariant c.in_ok-number.ensures.free
    (subst (λ (m : Matcher). entered_as c.args.name.now m.entered ≡ None) (sym c.self.view_is) c.requires)
    c.in_ok-name.ensures c.in_ok-places.ensures c.in_ok-automaton.ensures c.in_ok-entered.ensures

pub returns : goal.returns
returns c =
    let inside = c.self.inside in
    let row : Entered = record { name = c.in_ok-name.name; number = c.in_ok-number.number } in
    let old : Matcher =
    record { bus = inside.bus; patterns = rules_of inside.automaton; entered = inside.entered; places = inside.places } in
    let new : Matcher = record {
      bus = c.in_ok-bus.bus;
      patterns = rules_of c.in_ok-automaton.automaton;
      entered = c.in_ok-entered.entered;
      places = c.in_ok-places.places;
    } in
    subst (λ (m : Matcher). Enters m new c.args.name.now (Some c.args.pattern.now)) c.self.view_is
    (enters_more old new row c.args.pattern.now c.args.name.now c.self.invariant c.in_ok-number.ensures.free c.in_ok-name.ensures c.in_ok-bus.ensures
    c.in_ok-automaton.ensures c.in_ok-entered.ensures)
