use Rattle.router_sessions.specs.Desk.{seat_of}
use Rattle.router_sessions.proofs.replays.repeat.Given as goal

abbrev pub ghosts-repeat_by : goal.ghosts-repeat_by
ghosts-repeat_by g a = record {
  hall = a.desk.hall.now.table.shared.table_id;
  seat = seat_of a.desk.connection a.pass.now.seat;
  passes = a.pass.now.seat.me.0.passes;
  made = a.pass.now.seat.me.0.made;
}
