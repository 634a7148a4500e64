use Rattle.std.proofs.Common.{◌∙◌}
use Rattle.delivery_duties.proofs.RetryLemmas.{capped}
use Rattle.delivery_duties.proofs.retry.delay.Goals as goal

pub returns-clause-delay : goal.returns-clause-delay
returns-clause-delay c = c.min-2.ensures ∙ capped c.args.failures c.min.result c.min.ensures
