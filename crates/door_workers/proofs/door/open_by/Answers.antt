use Rattle.shared_door.proofs.Keeping.{prefix_again}
use Rattle.std.specs.Prelude.{slice_index_or}
use Rattle.door_workers.proofs.ServingLemmas.{worked_still}
use Rattle.door_workers.proofs.door.open_by.Goals as goal

pub returns-clause-worked : goal.returns-clause-worked
returns-clause-worked g c = λ k d below.
    let w = slice_index_or c.work_all.new.workers k d in let parts = c.into_parts in
    worked_still g.W.Work.did g.V.Story.made_by w.front.items parts.result.acts.items
    (prefix_again w.front.items c.longest-over.result.items parts.result.acts.items (c.longest-over.ensures.all k d below) parts.ensures.acts.1)
    w.pass.seat w.lent.value w.own (c.work_all.ensures.worked k d below)
