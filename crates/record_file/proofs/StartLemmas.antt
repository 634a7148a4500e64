-- A file of records that is begun or gone on with.
use Rattle.std.proofs.Common.{◌≡◌, ℕ, ◌≤◌, List, [], ◌∷◌, ◌++◌, length, take, Result, Ok}
use Rattle.std.proofs.Common.{refl, sym, ap, subst, inl, ⊎_elim, ◌∙◌, arith}
use Rattle.std.proofs.lemmas.List.{drop_all, append-nil}
use Rattle.router_disk.specs.declared.disk_call.DiskCall.{DiskCall}
use Rattle.router_disk.specs.declared.fault.Failed.{Failed}
use Rattle.router_disk.specs.Disk.{overwritten, AreAnswers, Torn, IsImageSince}
use Rattle.router_disk.proofs.DiskLemmas.{IsImage_now, overwritten_within}
use Rattle.record_file.specs.Records.{first_gate, header, HasRecords, IsFileOf}
use Rattle.record_file.specs.Kept.{IsKept, IsSettled, IsSettledSince, IsOpened}
use Rattle.record_file.specs.State.{IsAtRest, IsEmptyFile}
use Rattle.record_file.specs.Append.{IsWritten}
use Rattle.record_file.proofs.RecordLemmas.{header_front, whole, whole_begins, whole_has}
use Rattle.record_file.proofs.MomentLemmas.{leaves, settles, written_longer, written_front}
use Rattle.record_file.proofs.LookLemmas.{opened_settled}

-- header and closed gate
abbrev pub begun : List ℕ
begun = 69 ∷ 66 ∷ 74 ∷ 82 ∷ 78 ∷ 76 ∷ 49 ∷ 10 ∷ 0 ∷ []

begun_is : begun ≡ whole header [] 0 []
unfolding header
begun_is = refl

-- a file in which all has been safe since a moment
pub kept_all : (first : List ℕ) (calls : List DiskCall) (all : List (List ℕ)) (since : ℕ) → since ≤ length calls →
    ((image : List ℕ) → IsImageSince first calls since image → IsFileOf image all) → IsKept first calls all since all all
kept_all first calls all since past each = record {
  order = ([], sym (append-nil all));
  each = λ image left. (all, each image left, ([], sym (append-nil all)), ([], sym (append-nil all)));
  now = λ image left. (all, each image (IsImage_now first calls since image past left), ([], sym (append-nil all)), ([], sym (append-nil all)));
}

module _ (old new : List DiskCall) (since : ℕ) (opened : IsOpened old since) (empty : IsEmptyFile old) (result : Result (Unit {0}) Failed)
    (written : IsWritten old 0 begun result new) (first : List ℕ) (answers : AreAnswers first new) where
  before : IsSettledSince first old since first
  before = opened first (written_front first old 0 begun result new written answers)

  short : length first ≤ 9
  short = empty first first (written_front first old 0 begun result new written answers) before.known

  settled : IsSettled first old first
  settled = opened_settled first old since first before

  torn : (image : List ℕ) → Torn 0 (length begun) first image → IsFileOf image []
  torn image t = inl (omega (arith, short, t.no_longer), refl)

  each : (image : List ℕ) → IsImageSince first new since image → IsFileOf image []
  each image left =
      ⊎_elim (λ earlier. inl (omega (arith, short, ap (λ m. length m) (before.each image earlier)), refl)) (λ now. now)
      (leaves first old first settled 0 begun (omega arith) (λ m. IsFileOf m []) torn result new written since image left)

  pub begun_kept : IsKept first new [] since [] []
  begun_kept = kept_all first new [] since (omega (arith, before.past, written_longer old 0 begun result new written)) each

  shape : overwritten first 0 begun ≡ whole header [] 0 []
  shape =
      overwritten_within first 0 begun (omega arith) ∙ ap (λ m. begun ++ m) (drop_all 9 first (omega (arith, short))) ∙ begun_is

  at_rest : IsWritten old 0 begun (Ok tt) new → IsAtRest first_gate first new [] 8
  at_rest ok = record {
    file = overwritten first 0 begun;
    settled = settles first old first settled 0 begun (omega arith) new ok;
    begins = ap (λ f. take 8 f) shape ∙ whole_begins 8 header header_front [] 0 [];
    after = omega arith;
    gate = 0;
    rest = [];
    has = subst (λ f. HasRecords first_gate f [] 0 []) (sym shape) (whole_has 8 header header_front [] 0 [] tt);
    closed = λ no. absurd (omega (arith, no));
    gate_place = refl;
    low = omega arith;
  }

pub begun_rests : (old new : List DiskCall) (since : ℕ) → IsOpened old since → IsEmptyFile old → IsWritten old 0 begun (Ok tt) new →
    (first : List ℕ) → AreAnswers first new → IsAtRest first_gate first new [] 8
begun_rests old new since opened empty written first answers = at_rest old new since opened empty (Ok tt) written first answers written
