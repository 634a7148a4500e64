use Rattle.shared_door.proofs.Keeping.{over_later}
use Rattle.door_workers.proofs.ServingLemmas.{worked_still}
use Rattle.door_workers.proofs.site.leave.Goals as goal

pub returns-clause-worked : goal.returns-clause-worked
returns-clause-worked g c = let w = c.args.worker.now in let (_, _, mine, _) = c.learn.ensures in
    worked_still g.W.Work.did g.V.Story.made_by w.front.items c.learn.new.self.items mine w.pass.seat w.lent.value w.own c.requires.worked

pub returns-clause-over : goal.returns-clause-over
returns-clause-over g c = let (_, _, _, theirs) = c.learn.ensures in over_later c.args.front.items c.learn.new.self.items theirs c.requires.over.1
