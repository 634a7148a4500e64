use Rattle.bus_policy.proofs.AccountLemmas.{root_named}
use Rattle.bus_policy.proofs.account.account_of_root.Goals as goal

pub returns-in-Some : goal.returns-in-Some
returns-in-Some c = root_named c.args.word.now c.in-Some.rest.now c.before-in-Some.result c.in-Some.ensures c.before-in-Some.ensures

pub returns-in-None : goal.returns-in-None
returns-in-None c = λ account e. c.in-None.ensures _ e
