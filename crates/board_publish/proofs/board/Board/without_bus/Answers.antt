use Rattle.std.proofs.Common.{List, sym, subst}
use Rattle.rule_table.specs.RuleSet.{RuleSet}
use Rattle.board_publish.specs.MatcherView.{Matcher}
use Rattle.board_publish.specs.Matchers.{AreMatchersOf}
use Rattle.board_publish.proofs.ChangeLemmas.{gone_board}
use Rattle.board_publish.proofs.board.Board.without_bus.Goals as goal

pub invariant_of-result : goal.invariant_of-result
invariant_of-result c =
    let old = c.self.inside.matchers in
    let were = subst (λ (s : RuleSet). AreMatchersOf s old) c.self.view_is c.self.invariant in
    subst (λ (s : RuleSet). AreMatchersOf s c.in_ok-matchers.matchers) (sym c.in_ok-set.ensures)
    (subst (λ (ms : List Matcher). AreMatchersOf c.args.set.now ms) (sym c.in_ok-matchers.ensures)
    (gone_board old c.args.bus.now c.args.self.now c.args.set.now were c.requires.none c.requires.others))
