use Rattle.router_sessions.specs.Desk.{seat_of}
use Rattle.router_sessions.proofs.delivery.deliver.Given as goal

abbrev pub ghosts-deliver_by : goal.ghosts-deliver_by
ghosts-deliver_by g a = record {
  hall = a.desk.hall.now.table.shared.table_id;
  seat = seat_of a.desk.connection a.pass.now.seat;
  passes = a.pass.now.seat.me.0.passes;
  made = a.pass.now.seat.me.0.made;
}
