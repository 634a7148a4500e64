use Rattle.std.proofs.Common.{sym, ◌∙◌}
use Rattle.bus_policy.proofs.AccountLemmas.{is_root_of, no_root}
use Rattle.bus_policy.proofs.account.is_root.Goals as goal

pub returns-in-Some : goal.returns-in-Some
returns-in-Some c = c.is_account.ensures ∙ sym (is_root_of c.args.word.now c.in-Some.account.now c.in-Some.ensures)

pub returns-in-None : goal.returns-in-None
returns-in-None c = sym (no_root c.args.word.now c.in-None.ensures)
