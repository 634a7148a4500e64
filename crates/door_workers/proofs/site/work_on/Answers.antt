use Rattle.std.proofs.Common.{sym, subst}
use Rattle.atomic_table.specs.Seated.{TableId}
use Rattle.door_workers.proofs.ServingLemmas.{worked_on}
use Rattle.door_workers.proofs.site.work_on.Goals as goal

pub returns-clause-worked : goal.returns-clause-worked
returns-clause-worked g c =
    let w = c.args.worker.now in let m = c.meanwhile in
    worked_on g.W.Work.did g.V.Story.made_by w.front.items w.pass.seat m.new.pass.seat w.lent.value w.own m.new.own m.ensures.pass.0.1 c.requires.worked m.ensures.did

pub meanwhile-requires-clause-works : goal.meanwhile-requires-clause-works
meanwhile-requires-clause-works g c = subst (λ (t : TableId). g.W.Work.works c.args.site.work.now t) (sym c.requires.pass.0) c.requires.works
