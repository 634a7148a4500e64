use denote.Param.Send.{sendable}
use Rattle.router_core.proofs.MovingLemmas.{tables_send, errand_send}
use Rattle.session_tests.proofs.tables.move_between_threads.Goals as goal

pub may_move-requires-send-T : goal.may_move-requires-send-T
may_move-requires-send-T c κs = search (sendable, tables_send)

pub may_move-requires-2-send-T : goal.may_move-requires-2-send-T
may_move-requires-2-send-T c κs = search (sendable, errand_send)
