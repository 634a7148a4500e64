-- For crates above: a door over TCP may go to another thread (`door_send`).
use denote.RattleType.{RattleType}
use denote.Param.Send.{IsSend, sendable}
use Rattle.std.proofs.Crossing.{crosses}
use Rattle.http_server.proofs.log.Log.TheSendSync as log
use Rattle.key_tree.proofs.subtree.Subtree.TheLaws.TheKnot as tree
use Rattle.tcp_connections.proofs.CrossingLemmas.{buffer_send}
use Rattle.tcp_connections.proofs.connection.Connection.TheSendSync as connection
use Rattle.tcp_host.proofs.alone.Alone.TheSendSync as alone
use Rattle.tcp_host.proofs.tcp_sink.TcpSink.TheSendSync as sink
use Rattle.tcp_host.proofs.tcp_source.TcpSource.TheSendSync as source
use Rattle.tcp_host.specs.contracts.tcp_door.TcpDoor.{the_row}

pub door_send : (N : RattleType) → IsSend N → IsSend (the_row N)
door_send N s =
    search (sendable, crosses, tree.crosses, buffer_send, connection.the_send, connection.the_sync, alone.the_send, alone.the_sync, source.the_send, sink.the_send, log.the_send) depth 30 fits 20000
