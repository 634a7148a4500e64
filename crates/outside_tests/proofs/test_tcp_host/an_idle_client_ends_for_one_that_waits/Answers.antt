use denote.Param.Send.{sendable}
use Rattle.std.proofs.Crossing.{crosses}
use Rattle.tcp_host.proofs.CrossingLemmas.{door_send}
use Rattle.outside_tests.proofs.test_tcp_host.an_idle_client_ends_for_one_that_waits.Goals as goal

pub knock-requires-send-D : goal.knock-requires-send-D
knock-requires-send-D g c κs = search (sendable, crosses, door_send) depth 20

pub knock-requires-2-send-D : goal.knock-requires-2-send-D
knock-requires-2-send-D g c κs = search (sendable, crosses, door_send) depth 20

pub knock-requires-3-send-D : goal.knock-requires-3-send-D
knock-requires-3-send-D g c κs = search (sendable, crosses, door_send) depth 20
