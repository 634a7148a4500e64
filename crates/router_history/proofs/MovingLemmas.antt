-- A book may go to another thread if its journal's disk may: `book_send`.
use denote.RattleType.{RattleType}
use denote.Param.Send.{IsSend, sendable}
use Rattle.std.proofs.Crossing.{crosses}
use Rattle.http_server.proofs.log.Log.TheSendSync as log
use Rattle.growing_list.specs.contracts.listed.Listed as listed
use Rattle.router_core.proofs.MovingLemmas.{tables_send}
use Rattle.board_publish.proofs.CrossingLemmas.{board_send}
use Rattle.duty_journal.specs.contracts.home.Home as home
use Rattle.router_history.specs.contracts.opened_disk.OpenedDisk as opened
use Rattle.router_history.specs.contracts.history.Turn as turn
use Rattle.router_history.specs.contracts.history.History as turns
use Rattle.router_history.specs.contracts.book.Machine as machine
use Rattle.router_history.specs.contracts.book.Book as book

listed_send : (T : RattleType) → IsSend (listed.the_row T)
listed_send T = search (sendable, crosses) depth 20

opened_send : IsSend (opened.the_field).row
opened_send = search (sendable, crosses, listed_send) depth 20

turn_send : IsSend turn.the_row
turn_send = search (sendable, crosses, opened_send) depth 20

turns_send : IsSend (turns.the_field).row
turns_send = search (sendable, crosses, log.the_send, turn_send) depth 20

machine_send : IsSend (machine.the_field).row
machine_send = search (sendable, tables_send, board_send, turns_send) depth 20

home_field_send : (D : RattleType) → IsSend D → IsSend (home.the_field D).row
home_field_send D s = search (sendable, crosses, log.the_send) depth 20

pub book_send : (D : RattleType) → IsSend D → IsSend (book.the_row D)
book_send D s = search (sendable, machine_send, home_field_send) depth 20
