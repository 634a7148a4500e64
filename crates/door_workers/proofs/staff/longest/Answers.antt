use Rattle.std.proofs.Common.{◌≡◌, ◌<◌, ◌≤◌, get_or, length, rules, ◌∙◌, subst, sym}
use mathlib.Core.List.{IsPrefix}
use Rattle.shared_door.specs.declared.acts.Act.{Act}
use Rattle.shared_door.proofs.Keeping.{over_later}
use Rattle.door_workers.specs.declared.worker.Worker.{Worker}
use Rattle.door_workers.proofs.ServingLemmas.{longest_more, all_whole}
use Rattle.door_workers.proofs.staff.longest.Goals as goal

pub loop-worker-preserved : goal.loop-worker-preserved
loop-worker-preserved g c =
    let W : Type 0 = Worker g.row.V.Denot g.row.Own.Denot (Act g.row.D-In.Denot g.row.D-Out.Denot g.row.V-Turn.Denot) g.row.V-Turn.Denot g.V.Story in
    let i = c.loop-worker.invariant in let (name, _, mine, theirs) = c.learn.ensures in
    let at : get_or c.args.workers.now c.loop-worker.worker-index c.worker-item.result ≡ c.worker-item.result = search rules in
    let below : c.loop-worker.worker-index < length c.args.workers.now = search rules in
    record {
      over = (name ∙ i.over.0, over_later c.loop-worker.front.items c.learn.new.self.items mine i.over.1);
      all = longest_more (λ (w : W). w.front.items) c.args.workers.now c.loop-worker.worker-index c.worker-item.result c.loop-worker.front.items
          c.learn.new.self.items below i.all mine (subst (λ (w : W). IsPrefix w.front.items c.learn.new.self.items) (sym at) theirs);
    }

pub returns-clause-all : goal.returns-clause-all
returns-clause-all g c =
    let W : Type 0 = Worker g.row.V.Denot g.row.Own.Denot (Act g.row.D-In.Denot g.row.D-Out.Denot g.row.V-Turn.Denot) g.row.V-Turn.Denot g.V.Story in
    let end : length c.args.workers.now ≤ c.loop-worker.worker-index = search rules in
    all_whole (λ (w : W). IsPrefix w.front.items c.loop-worker.front.items) c.loop-worker.worker-index c.args.workers.now end c.loop-worker.invariant.all
