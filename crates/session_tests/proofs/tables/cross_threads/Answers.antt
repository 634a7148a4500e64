use denote.Param.Send.{sendable}
use Rattle.router_core.proofs.CrossingLemmas.{set_send, set_sync, input_send, input_sync}
use Rattle.session_tests.proofs.tables.cross_threads.Goals as goal

pub may_be_shared-requires-send-T : goal.may_be_shared-requires-send-T
may_be_shared-requires-send-T c κs = search (sendable, set_send)

pub may_be_shared-requires-sync-T : goal.may_be_shared-requires-sync-T
may_be_shared-requires-sync-T c κs = search (sendable, set_sync)

pub may_be_shared-requires-4-send-T : goal.may_be_shared-requires-4-send-T
may_be_shared-requires-4-send-T c κs = search (sendable, input_send)

pub may_be_shared-requires-4-sync-T : goal.may_be_shared-requires-4-sync-T
may_be_shared-requires-4-sync-T c κs = search (sendable, input_sync)
