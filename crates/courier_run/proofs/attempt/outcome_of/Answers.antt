use Rattle.std.proofs.Common.{rules, [], sym, append-nil}
use Rattle.courier_run.specs.Link.{too_old, queued}
use Rattle.courier_run.specs.Claim.{above_age, for_queue}
use Rattle.courier_run.proofs.attempt.outcome_of.Goals as goal

pub returns-then-is_too_old-clause-tried : goal.returns-then-is_too_old-clause-tried
returns-then-is_too_old-clause-tried g c = ([], sym (append-nil (g.L.Link.exchanges c.args.link.now)), too_old (search rules))

pub returns-in-Queue-clause-tried : goal.returns-in-Queue-clause-tried
returns-in-Queue-clause-tried g c = ([], sym (append-nil (g.L.Link.exchanges c.args.link.now)), queued (search rules) c.in-Queue.ensures)

pub returns-then-is_too_old-clause-fits : goal.returns-then-is_too_old-clause-fits
returns-then-is_too_old-clause-fits g c = above_age (search rules)

pub returns-in-Queue-clause-fits : goal.returns-in-Queue-clause-fits
returns-in-Queue-clause-fits g c = for_queue (search rules) c.in-Queue.ensures
