use Rattle.std.proofs.Common.{◌≡◌, None, Some, sym, ap, ◌∙◌, subst}
use Rattle.name_rows.specs.Rows.{without}
use Rattle.rule_automaton.specs.View.{rules_of}
use Rattle.board_publish.specs.Entered.{entered_as}
use Rattle.board_publish.specs.MatcherView.{Matcher}
use Rattle.board_publish.specs.Matchers.{Enters}
use Rattle.board_publish.proofs.MatcherLemmas.{name_of, numbered_less, enters_less}
use Rattle.board_publish.proofs.matcher.Matcher.without.Goals as goal

pub invariant_of-result : goal.invariant_of-result
invariant_of-result c =
    let old = c.self.inside in
    let row = c.args.rule.now in
    numbered_less (rules_of old.automaton) (rules_of c.in_ok-automaton.automaton) old.entered c.in_ok-entered.entered old.places row c.self.invariant
    (subst (λ (m : Matcher). entered_as row.name m.entered ≡ Some row) (sym c.self.view_is) c.requires)
    c.in_ok-automaton.ensures (c.in_ok-entered.ensures ∙ ap (λ n. without name_of n old.entered) c.as_str.ensures)

pub returns : goal.returns
returns c =
    let inside = c.self.inside in
    let row = c.args.rule.now in
    let old : Matcher =
    record { bus = inside.bus; patterns = rules_of inside.automaton; entered = inside.entered; places = inside.places } in
    let new : Matcher = record {
      bus = c.in_ok-bus.bus;
      patterns = rules_of c.in_ok-automaton.automaton;
      entered = c.in_ok-entered.entered;
      places = inside.places;
    } in
    subst (λ (m : Matcher). Enters m new row.name None) c.self.view_is
    (enters_less old new row c.self.invariant (subst (λ (m : Matcher). entered_as row.name m.entered ≡ Some row) (sym c.self.view_is) c.requires)
    c.in_ok-bus.ensures c.in_ok-automaton.ensures (c.in_ok-entered.ensures ∙ ap (λ n. without name_of n inside.entered) c.as_str.ensures))
