use denote.Param as param
use denote.Param.Send.{IsSend, IsSync, sendable, shr_sync, param_send, param_sync, arg_send, arg_sync, recorded_sync, struct_sync}
use denote.RattleType.{RattleType}
use mir.Syntax.{named, Sym, ty_struct, tcons, tnil, ty_ptr}
use denote.Exit as exit
use denote.Ref.{NamedLft}
use denote.Struct.Tuple as tuple
use denote.Struct.Field as field
use denote.Struct.Declared as declared
use Rattle.std.specs.Prelude.{[], ◌∷◌}
use Rattle.std.proofs.Common.{◌≡◌, ℕ, length, subst, ap, sym, ◌∙◌, arith, rules}
use Rattle.std.proofs.Crossing.{crosses}
use Rattle.std.specs.contracts.sync.Mutex as mutex
use Rattle.shared_door.specs.contracts.porch.Porch as porch
use Rattle.shared_door.specs.contracts.acts.Act as act
use Rattle.turn_book.specs.declared.story.Story as story
use Rattle.door_workers.specs.contracts.worker.Worker as worker
use Rattle.shared_door.proofs.CrossingLemmas.{porch_send}
use Rattle.shared_door.specs.Acts.{IsOver}
use Rattle.shared_door.specs.declared.acts.Act.{Act}
use Rattle.atomic_table.proofs.shared.Seat.TheSendSync as seat_sends
use Rattle.growing_list.proofs.list.Front.TheSendSync as front_sends
use Rattle.door_workers.specs.declared.worker.Worker.{Worker}
use Rattle.door_workers.specs.contracts.counts.Counts as counts
use Rattle.door_workers.specs.Serving.{HasWorked}
use Rattle.door_workers.proofs.ServingLemmas.{same_images, same_pair}
use Rattle.door_workers.proofs.door.work_all.Goals as goal

four_sync : (ν : Sym) (A B C D : RattleType) → IsSync A → IsSync B → IsSync C → IsSync D → IsSync (tuple.TupleAt ν (A ∷ B ∷ C ∷ D ∷ []))
four_sync ν A B C D a b c d =
    let t = tuple.type_at ν (A ∷ B ∷ C ∷ D ∷ []) in recorded_sync _ t.D t.to t.to_one (struct_sync (declared.shape t) (a, (b, (c, (d, tt)))))

counts_sync : IsSync counts.the_row
counts_sync = search (sendable, crosses) depth 20

pub for_each_mut-requires-sync-F : goal.for_each_mut-requires-sync-F
for_each_mut-requires-sync-F g c κs lives =
    let N = param.param 0 g.row.N in let V = param.param 1 g.row.V in let R = param.param 2 g.row.Rt in let D = param.param 3 g.row.D in
    let W = param.param 5 g.row.W in let T = param.param 6 g.row.V-Turn in let I = param.param 7 g.row.D-In in let O = param.param 8 g.row.D-Out in
    let k = κs.1.1.1.1.1.1 in let ℓ : NamedLft = record { mir = named 8; lft = k.1.1.0 } in
    let P = porch.the_row ℓ V D N T I O g.V.Story g.V.Served g.D.Door g.D.In.Source g.D.Out.Sink g.N.Naming in
    let value : IsSend V = search (sendable, c.type_bounds.send-V) in
    let door : IsSend D = search (sendable, c.type_bounds.send-D) in
    let name : IsSend N = search (sendable, c.type_bounds.send-N) in
    let r : IsSync R = search (sendable, c.type_bounds.sync-Rt) in
    let p : IsSend P = porch_send ℓ V D N T I O g.V.Story g.V.Served g.D.Door g.D.In.Source g.D.Out.Sink g.N.Naming value door name in
    let m : IsSync (mutex.the_row P) = search (crosses, p) in
    let w : IsSync W = search (sendable, c.type_bounds.sync-W) in
    let a : IsSync (field.shr_ref_field record { mir = named 6; lft = k.0 } R tt).row = shr_sync _ _ _ r in
    let b : IsSync (field.shr_ref_field record { mir = named 7; lft = k.1.0 } (mutex.the_row P) tt).row = shr_sync _ _ _ m in
    let d : IsSync (field.shr_ref_field record { mir = named 9; lft = k.1.1.1.0 } counts.the_row tt).row = shr_sync _ _ _ counts_sync in
    let e : IsSync (field.shr_ref_field record { mir = named 10; lft = k.1.1.1.1.0 } W tt).row = shr_sync _ _ _ w in
    param_sync 2 _ (arg_sync (ty_struct [] (tcons ty_ptr (tcons ty_ptr (tcons ty_ptr (tcons ty_ptr tnil))))) exit.no _ (four_sync _ _ _ _ _ a b d e))

worker_send : (V Own A T : RattleType) (s : story.Ghosts V.Denot T.Denot) → IsSend V → IsSend Own → IsSend (worker.the_row V Own A T s)
worker_send V Own A T s a b = search (sendable, crosses, seat_sends.the_send, front_sends.the_send) depth 30 fits 20000

pub for_each_mut-requires-send-T : goal.for_each_mut-requires-send-T
for_each_mut-requires-send-T g c κs lives =
    let V = param.param 1 g.row.V in let Own = param.param 4 g.row.Own in let T = param.param 6 g.row.V-Turn in let I = param.param 7 g.row.D-In in
    let O = param.param 8 g.row.D-Out in
    let value : IsSend V = search (sendable, c.type_bounds.send-V) in
    let own : IsSend Own = search (sendable, c.type_bounds.send-Own) in
    param_send 1 _ (arg_send _ exit.no _ (worker_send V Own (act.the_row I O T) T g.V.Story value own))

pub returns-clause-over : goal.returns-clause-over
returns-clause-over g c = λ k d below.
    let W : Type 0 = Worker g.row.V.Denot g.row.Own.Denot (Act g.row.D-In.Denot g.row.D-Out.Denot g.row.V-Turn.Denot) g.row.V-Turn.Denot g.V.Story in
    let Q : W → Type 0 = λ w. (w.front.name ≡ g.N.Naming.acts) × IsOver w.front.items in
    let same : length c.for_each_mut.new.s ≡ length c.args.workers.now = search rules in
    let at = (c.for_each_mut.ensures k d (omega (arith, below, same))).1 in subst Q at.left at.call.1.0

pub returns-clause-worked : goal.returns-clause-worked
returns-clause-worked g c = λ k d below.
    let W : Type 0 = Worker g.row.V.Denot g.row.Own.Denot (Act g.row.D-In.Denot g.row.D-Out.Denot g.row.V-Turn.Denot) g.row.V-Turn.Denot g.V.Story in
    let Q : W → Type 0 = λ w. HasWorked g.W.Work.did w.front.items w.pass.seat w.lent.value w.own in
    let same : length c.for_each_mut.new.s ≡ length c.args.workers.now = search rules in
    let at = (c.for_each_mut.ensures k d (omega (arith, below, same))).1 in subst Q at.left at.call.1.1.0

pub returns-clause-same : goal.returns-clause-same
returns-clause-same g c =
    let W : Type 0 = Worker g.row.V.Denot g.row.Own.Denot (Act g.row.D-In.Denot g.row.D-Out.Denot g.row.V-Turn.Denot) g.row.V-Turn.Denot g.V.Story in
    let pair : W → ℕ × g.row.Own.Denot = λ w. (w.pass.seat.me.0.number, w.lent.value) in
    let same : length c.for_each_mut.new.s ≡ length c.args.workers.now = search rules in
    same_images pair c.for_each_mut.new.s c.args.workers.now same (λ k d below.
    let at = (c.for_each_mut.ensures k d below).1 in
    sym (ap pair at.left) ∙ (same_pair _ _ _ _ at.call.1.1.1.0 (ap (λ s. s.value) at.call.1.1.1.1) ∙ ap pair at.argument_is))
