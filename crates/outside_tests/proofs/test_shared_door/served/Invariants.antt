use Rattle.shared_door.specs.Shown.{shown_by}
use Rattle.outside_tests.proofs.test_shared_door.served.Given as goal

abbrev pub ghosts-served_by : goal.ghosts-served_by
ghosts-served_by g a = record {
  hall = a.hall.now.table.shared.table_id;
  tickets = a.tickets.seat.table_id;
  pass = a.own.seat.me.0.number;
  acts = a.acts.name;
  most = a.most;
  start = shown_by g.D.Door.faults g.D.Door.ahead g.D.Door.given g.D.Door.ended g.D.Door.gave g.D.Door.took_back g.D.Door.closed a.door;
}
