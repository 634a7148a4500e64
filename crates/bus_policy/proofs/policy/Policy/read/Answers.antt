use Rattle.json_text.specs.View.{tree_of}
use Rattle.bus_policy.proofs.ReadLemmas.{read_policy}
use Rattle.bus_policy.proofs.policy.Policy.read.Goals as goal

pub returns-in-Err-clause-only : goal.returns-in-Err-clause-only
returns-in-Err-clause-only c = λ policy p. c.in-Err.ensures.only p.value p.spelled.short p.spelled.spelled

pub returns-clause-only : goal.returns-clause-only
returns-clause-only c = λ policy p.
    read_policy c.args.bytes.now (tree_of c.in-Ok.json) policy c.checked.result c.in-Ok.ensures.only c.checked.ensures.found c.checked.ensures.fault p
