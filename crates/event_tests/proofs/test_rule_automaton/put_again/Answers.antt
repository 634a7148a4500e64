use Rattle.std.proofs.Common.{◌<◌, ℕ, List, sym, subst}
use Rattle.std.specs.List.{All}
use Rattle.std.proofs.lemmas.List.Elements.{All-push, All-filter}
use Rattle.rule_automaton.specs.Rules.{has_other}
use Rattle.rule_automaton.specs.View.{rules_of}
use Rattle.event_tests.proofs.test_rule_automaton.put_again.Goals as goal

pub returns-then-number-lt-PLACES : goal.returns-then-number-lt-PLACES
returns-then-number-lt-PLACES c =
    let below : ℕ × List ℕ → Type 0 = λ rule. rule.0 < 16 in
    let number = c.args.number in
    let others = rules_of c.in_ok-without.without in
    let before : All below others = subst (All below) (sym c.in_ok-without.ensures)
    (All-filter (has_other number) below (rules_of c.args.automaton.now) c.requires) in
    subst (All below) (sym c.in_ok-changed.ensures) (All-push below others (number, c.args.pattern.now) before c.if-number-lt-PLACES.true)
