-- What a file is, from what two calls answered.
use Rattle.std.proofs.Common.{◌≡◌, ℕ, ◌^◌, ◌<◌, List, [], ◌∷◌, ◌++◌, length, take, Some, Ok, sym, ap, subst, ◌∙◌}
use Rattle.std.proofs.Common.{true, false, eqb}
use Rattle.std.proofs.lemmas.Bool.{false≢true}
use lib.Pointwise.{pointwise, bytes_decides}
use Rattle.record_file.specs.Records.{header}
use Rattle.router_disk.specs.declared.disk_call.DiskCall.{DiskCall}
use Rattle.router_disk.specs.declared.disk_call.DiskCall.TheVariants.{Size, Read}
use Rattle.router_disk.specs.Disk.{AreAnswers, file_of}
use Rattle.record_file.proofs.MomentLemmas.{answer_one}
use Rattle.record_file.proofs.LookLemmas.{OnlyLooks-one, OnlyLooks-file, OnlyLooks-answers}

-- the bytes of the header
abbrev pub header_bytes : List ℕ
header_bytes = 69 ∷ 66 ∷ 74 ∷ 82 ∷ 78 ∷ 76 ∷ 49 ∷ 10 ∷ []

pub size_is : (first file : List ℕ) (old new : List DiskCall) (size : ℕ) → AreAnswers first new → file_of first old ≡ Some file →
    new ≡ old ++ Size (Ok size) ∷ [] → (size ≡ length file) × (size < 2 ^ 63)
size_is first file old new size answers known is = answer_one first old [] (Size (Ok size)) (Some file) known (subst (λ cs. AreAnswers first cs) is answers)

pub begins_is : (first file : List ℕ) (old mid new : List DiskCall) (size : ℕ) (bytes : List ℕ) (done : Unit {0}) → AreAnswers first new → file_of first old ≡ Some file →
    mid ≡ old ++ Size (Ok size) ∷ [] → new ≡ mid ++ Read 0 bytes (Ok done) ∷ [] → length bytes ≡ 8 →
    (size ≡ length file) × (size < 2 ^ 63) × (take 8 file ≡ bytes)
begins_is first file old mid new size bytes done answers known is next len =
    let looks = OnlyLooks-one mid new (Read 0 bytes (Ok done)) tt next in
    let sizes = size_is first file old mid size (OnlyLooks-answers first mid new looks answers) known is in
    let there = OnlyLooks-file first old mid (OnlyLooks-one old mid (Size (Ok size)) tt is) ∙ known in
    let read = answer_one first mid [] (Read 0 bytes (Ok done)) (Some file) there (subst (λ cs. AreAnswers first cs) next answers) in
    (sizes.0, sizes.1, ap (λ (n : ℕ). take n file) (sym len) ∙ sym read)

-- the header, compared byte by byte
pub is_header : (bytes : List ℕ) → true ≡ pointwise eqb bytes header_bytes → bytes ≡ header
unfolding header
is_header bytes same = (bytes_decides bytes header_bytes).0 (sym same)

pub is_no_header : (bytes : List ℕ) → false ≡ pointwise eqb bytes header_bytes → bytes ≡ header → ⊥
unfolding header
is_no_header bytes other is = false≢true (other ∙ (bytes_decides bytes header_bytes).1 is)
