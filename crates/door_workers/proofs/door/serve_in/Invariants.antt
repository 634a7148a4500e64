use Rattle.shared_door.specs.Shown.{shown_by}
use Rattle.door_workers.proofs.door.serve_in.Given as goal

abbrev pub ghosts-open_by : goal.ghosts-open_by
ghosts-open_by g a = record {
  hall = a.hall.now.table.shared.table_id;
  tickets = a.tickets.seat.table_id;
  pass = a.last.seat.me.0.number;
  acts = a.acts.name;
  most = a.connections;
  start = shown_by g.D.Door.faults g.D.Door.ahead g.D.Door.given g.D.Door.ended g.D.Door.gave g.D.Door.took_back g.D.Door.closed a.door;
}
