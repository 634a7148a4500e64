use Rattle.event_shape.proofs.NameLemmas.{queue_named}
use Rattle.outside_tests.proofs.test_courier_run.PlainDutyHeldDuty.way.Goals as goal

pub returns-in-Some : goal.returns-in-Some
returns-in-Some c =
    let queue = c.in-Some.field-0.now in
    (queue, (queue_named c.args.self.now.endpoint.now queue).0 c.in-Some.ensures)
