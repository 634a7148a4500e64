use Rattle.std.proofs.Common.{sym}
use Rattle.delivery_duties.proofs.DeadLemmas.{place_decides}
use Rattle.delivery_duties.proofs.duties.dead_letter_place.Goals as goal

pub returns-in-Some : goal.returns-in-Some
returns-in-Some c = place_decides c.args.target.now c.in-Some.arn.now c.args.queues.now c.place_of_arn.result (sym c.in-Some.ensures) c.place_of_arn.ensures
