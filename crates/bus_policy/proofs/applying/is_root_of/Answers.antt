use Rattle.bus_policy.proofs.AccountLemmas.{root_test, root_test_none}
use Rattle.bus_policy.proofs.applying.is_root_of.Goals as goal

pub returns-in-Some : goal.returns-in-Some
returns-in-Some c = root_test c.args.word.now c.in-Some.other.now c.args.account.now c.eq.result c.in-Some.ensures c.eq.ensures

pub returns-in-None : goal.returns-in-None
returns-in-None c = root_test_none c.args.word.now c.args.account.now c.in-None.ensures
