use denote.Param.Send.{sendable}
use Rattle.std.proofs.Crossing.{crosses}
use Rattle.http_server.proofs.log.Log.TheSendSync as log
use Rattle.tcp_host.proofs.CrossingLemmas.{door_send}
use Rattle.ebusd.proofs.main.Goals as goal

pub run-status-requires-send-H-Link : goal.run-status-requires-send-H-Link
run-status-requires-send-H-Link g c κs = search (sendable, crosses, log.the_send) depth 20

pub run-status-requires-send-H-Door : goal.run-status-requires-send-H-Door
run-status-requires-send-H-Door g c κs = search (sendable, crosses, door_send) depth 20
