-- For crates above: a journal, and the place where batches are appended, may go to another thread if the disk may (`journal_send`, `home_send`).
use denote.RattleType.{RattleType}
use denote.Param.Send.{IsSend, sendable}
use Rattle.std.proofs.Crossing.{crosses}
use Rattle.http_server.proofs.log.Log.TheSendSync as log
use Rattle.duty_journal.specs.contracts.journal.Journal as journal
use Rattle.duty_journal.specs.contracts.home.Home as home

pub journal_send : (D : RattleType) → IsSend D → IsSend (journal.the_row D)
journal_send D s = search (sendable, crosses, log.the_send) depth 20

pub home_send : (D : RattleType) → IsSend D → IsSend (home.the_row D)
home_send D s = search (sendable, crosses, log.the_send) depth 20
