-- The closures of a clerk may be shared by threads, each by what it captures: `clerk_sync`, `three_sync`, `four_sync`. A closure that names a type
-- parameter in a call alone has a mark of it as one capture more: `mark_sync`.
use denote.RattleType.{RattleType}
use denote.Param.Send.{IsSync, sendable, recorded_sync, struct_sync}
use denote.Struct.Declared as declared
use denote.Struct.Tuple as tuple
use mir.Syntax.{Sym}
use Rattle.std.specs.Prelude.{[], ◌∷◌}
use Rattle.atomic_table.below.core.specs.contracts.marker.ClosureMark as mark
use Rattle.session_workers.specs.contracts.clerk.Clerk as clerk

pub mark_sync : (T : RattleType) → IsSync (mark.the_row T)
mark_sync T = search sendable depth 20

pub clerk_sync : (S G M : RattleType) → IsSync S → IsSync G → IsSync M → IsSync (clerk.the_row S G M)
clerk_sync S G M s g m = search sendable depth 20

pub three_sync : (ν : Sym) (A B C : RattleType) → IsSync A → IsSync B → IsSync C → IsSync (tuple.TupleAt ν (A ∷ B ∷ C ∷ []))
three_sync ν A B C a b c =
    let t = tuple.type_at ν (A ∷ B ∷ C ∷ []) in recorded_sync _ t.D t.to t.to_one (struct_sync (declared.shape t) (a, (b, (c, tt))))

pub four_sync : (ν : Sym) (A B C D : RattleType) → IsSync A → IsSync B → IsSync C → IsSync D → IsSync (tuple.TupleAt ν (A ∷ B ∷ C ∷ D ∷ []))
four_sync ν A B C D a b c d =
    let t = tuple.type_at ν (A ∷ B ∷ C ∷ D ∷ []) in recorded_sync _ t.D t.to t.to_one (struct_sync (declared.shape t) (a, (b, (c, (d, tt)))))
