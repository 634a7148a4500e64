-- a `&` to a `Front` holds what was reached, which can be had twice. Assumes `Logic`.
use base.Logic.{snd∗}
use base.Before.{before}
use types.Logic.{sem}
use denote.RattleType.{RattleType}
use denote.Param.Laws.{Laws}
use denote.Param.Shared.{copy_shared}
use denote.Struct.Laws.{field_copy}
use denote.Struct.Lending.{of_Lends}
use Rattle.std.specs.contracts.marker.PhantomData as marker
use Rattle.logbook.specs.Kept.{reached}
use Rattle.logbook.proofs.Fields.{lends_twice}
use Rattle.growing_list.specs.contracts.list.Front as C
use Rattle.growing_list.proofs.Steps.{had_twice}
use Rattle.growing_list.proofs.list.Front.TheLaw.Statement.{statement}

pub shares : (T : RattleType) (L : Laws T) → statement T L
shares T L =
    of_Lends (C.struct T) (C.the_codes T.Denot T.coded (marker.the_row T).coded) (C.the_heap T) (C.the_lent T)
    (λ d p. record { contraction = λ M 𝓤 𝓛 κ. had_twice 𝓛 T.coded d.name d.items; mono = λ M 𝓤 𝓛 κ' κ. snd∗ 𝓤 (sem 𝓛 (before κ' κ)) (sem 𝓛 (reached T.coded.code d.name d.items)) })
    (copy_shared (marker.the_field T) (field_copy (marker.the_type T) tt), tt)
    (λ M 𝓤 𝓛 d p. lends_twice 𝓛 (reached T.coded.code d.name d.items) (had_twice 𝓛 T.coded d.name d.items) (C.the_row T).lives)
