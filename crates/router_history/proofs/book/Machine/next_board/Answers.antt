use Rattle.std.proofs.Common.{sym, ap, ◌∙◌}
use Rattle.rule_table.specs.RuleSet.{applied}
use Rattle.rule_table.specs.View.{control_of}
use Rattle.router_history.proofs.BoardLemmas.{one_set, after_change, after_others}
use Rattle.router_history.proofs.book.Machine.next_board.Goals as goal

pub after-requires : goal.after-requires
after-requires c =
    one_set c.args.self.now.tables c.args.ready.now (control_of c.in-Some.control.now) c.in-Some.set.now c.requires c.in-Some.ensures.some
    ∙ ap (applied (control_of c.in-Some.control.now)) (sym c.args.self.now.same_set)

pub returns-in_ok-next-in-Some : goal.returns-in_ok-next-in-Some
returns-in_ok-next-in-Some c =
    c.in_ok-next-in-Some.ensures
    ∙ after_change c.args.self.now.tables c.args.ready.now (control_of c.in-Some.control.now) c.in-Some.set.now c.requires c.in-Some.ensures.some

pub returns-in-None : goal.returns-in-None
returns-in-None c = after_others c.args.self.now.tables c.args.ready.now c.requires c.in-None.ensures.none
