use denote.Param as param
use denote.Param.Send.{IsSend, IsSync, sendable, shr_sync, param_sync, arg_sync, recorded_sync, struct_sync}
use denote.RattleType.{RattleType}
use mir.Syntax.{named, Sym, ty_struct, tcons, tnil, ty_ptr}
use denote.Exit as exit
use denote.Ref.{NamedLft}
use denote.Struct.Tuple as tuple
use denote.Struct.Field as field
use denote.Struct.Declared as declared
use Rattle.std.specs.Prelude.{[], ◌∷◌}
use Rattle.std.proofs.Crossing.{crosses}
use Rattle.std.specs.contracts.sync.Mutex as mutex
use Rattle.turn_book.specs.contracts.hall.Hall as hall
use Rattle.shared_door.specs.contracts.porch.Porch as porch
use Rattle.outside_tests.specs.contracts.ledger.Ledger as ledger
use Rattle.outside_tests.specs.contracts.ledger.LedgerStory.TheImpl as story
use Rattle.outside_tests.specs.contracts.ledger.LedgerServed.TheImpl as served
use Rattle.shared_door.proofs.CrossingLemmas.{hall_sync, porch_send}
use Rattle.outside_tests.proofs.test_shared_door.serve_all.Goals as goal

abbrev turn : RattleType
turn = tuple.TupleAt (40 ∷ 44 ∷ 41 ∷ []) ((field.u64-field).row ∷ (field.u64-field).row ∷ [])

three_sync : (ν : Sym) (A B C : RattleType) → IsSync A → IsSync B → IsSync C → IsSync (tuple.TupleAt ν (A ∷ B ∷ C ∷ []))
three_sync ν A B C a b c = let t = tuple.type_at ν (A ∷ B ∷ C ∷ []) in recorded_sync _ t.D t.to t.to_one (struct_sync (declared.shape t) (a, (b, (c, tt))))

ledger_send : IsSend ledger.the_row
ledger_send = search (sendable, crosses) depth 20

pub for_each_mut-requires-sync-F : goal.for_each_mut-requires-sync-F
for_each_mut-requires-sync-F g c κs lives =
    let D = param.param 0 g.row.D in let N = param.param 2 g.row.N in let I = param.param 3 g.row.D-In in let O = param.param 4 g.row.D-Out in
    let door : IsSend D = search (sendable, c.type_bounds.send-D) in
    let name : IsSend N = search (sendable, c.type_bounds.send-N) in
    let ℓ : NamedLft = record { mir = named 9; lft = κs.1.1.1.1.1.1.1.1.1.0 } in
    let p : IsSend (porch.the_row ℓ ledger.the_row D N turn I O story.ghosts (served.ghosts I O) g.D.Door g.D.In.Source g.D.Out.Sink g.N.Naming) =
    porch_send ℓ ledger.the_row D N turn I O story.ghosts (served.ghosts I O) g.D.Door g.D.In.Source g.D.Out.Sink g.N.Naming ledger_send door name in
    let h : IsSync (hall.the_row ledger.the_row turn story.ghosts) = hall_sync ledger.the_row turn story.ghosts ledger_send in
    let r : IsSync (param.param 1 g.row.R) = search (sendable, c.type_bounds.sync-R) in
    let m : IsSync (mutex.the_row (porch.the_row ℓ ledger.the_row D N turn I O story.ghosts (served.ghosts I O) g.D.Door g.D.In.Source g.D.Out.Sink g.N.Naming)) = search (crosses, p) in
    let a : IsSync (field.shr_ref_field record { mir = named 6; lft = κs.1.1.1.1.1.1.0 } (param.param 1 g.row.R) tt).row = shr_sync _ _ _ r in
    let b : IsSync (field.shr_ref_field record { mir = named 7; lft = κs.1.1.1.1.1.1.1.0 } (hall.the_row ledger.the_row turn story.ghosts) tt).row = shr_sync _ _ _ h in
    let d : IsSync (field.shr_ref_field record { mir = named 8; lft = κs.1.1.1.1.1.1.1.1.0 } (mutex.the_row (porch.the_row ℓ ledger.the_row D N turn I O story.ghosts (served.ghosts I O) g.D.Door g.D.In.Source g.D.Out.Sink g.N.Naming)) tt).row = shr_sync _ _ _ m in
    param_sync 2 _ (arg_sync (ty_struct [] (tcons ty_ptr (tcons ty_ptr (tcons ty_ptr tnil)))) exit.no _ (three_sync _ _ _ _ a b d))
