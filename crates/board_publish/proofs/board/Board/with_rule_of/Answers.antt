use Rattle.std.proofs.Common.{None, Some, sym, subst}
use Rattle.rule_table.specs.RuleSet.{RuleSet}
use Rattle.board_publish.specs.Matchers.{AreMatchersOf, Changes}
use Rattle.board_publish.proofs.ChangeLemmas.{changed_board, changed_twice}
use Rattle.board_publish.proofs.board.Board.with_rule_of.Goals as goal

pub invariant_of-result : goal.invariant_of-result
invariant_of-result c =
    let old = c.self.inside.matchers in
    let new = c.in_ok-matchers-in-Some.matchers in
    let bus = c.args.bus.now in
    let name = c.args.name.now in
    let were = subst (λ (s : RuleSet). AreMatchersOf s old) c.self.view_is c.self.invariant in
    let twice = changed_twice old c.in_ok-left.left new bus name None (Some c.in-Some.pattern.now) c.in_ok-left.ensures c.in_ok-matchers-in-Some.ensures in
    subst (λ (s : RuleSet). AreMatchersOf s new) (sym c.in_ok-shared.ensures)
    (changed_board old new bus name c.args.self.now c.args.set.now were c.requires
    (subst (λ p. Changes old new bus name p) c.in-Some.ensures twice))

pub invariant_of-result-in-None : goal.invariant_of-result-in-None
invariant_of-result-in-None c =
    let old = c.self.inside.matchers in
    let new = c.in_ok-left.left in
    let bus = c.args.bus.now in
    let name = c.args.name.now in
    let were = subst (λ (s : RuleSet). AreMatchersOf s old) c.self.view_is c.self.invariant in
    subst (λ (s : RuleSet). AreMatchersOf s new) (sym c.in_ok-shared.ensures)
    (changed_board old new bus name c.args.self.now c.args.set.now were c.requires
    (subst (λ p. Changes old new bus name p) c.in-None.ensures c.in_ok-left.ensures))
