use Rattle.std.proofs.Common.{◌≡◌, take, All}
use mathlib.Core.List.{IsPrefix}
use Rattle.shared_door.specs.Acts.{IsOver}
use Rattle.door_workers.proofs.staff.longest.Given as goal

abbrev pub invariant-loop-worker : goal.invariant-loop-worker
invariant-loop-worker g l = record {
  over : (l.front.name ≡ g.N.Naming.acts) × IsOver l.front.items;
  all : All (λ w. IsPrefix w.front.items l.front.items) (take l.worker-index l.workers);
}
