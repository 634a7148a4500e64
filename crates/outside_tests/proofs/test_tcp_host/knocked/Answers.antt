use denote.Param.Send.{sendable}
use Rattle.std.proofs.Crossing.{crosses}
use Rattle.tcp_host.proofs.CrossingLemmas.{door_send}
use Rattle.outside_tests.proofs.test_tcp_host.knocked.Goals as goal

pub knock-letter-requires-send-D : goal.knock-letter-requires-send-D
knock-letter-requires-send-D c κs = search (sendable, crosses, door_send) depth 20
