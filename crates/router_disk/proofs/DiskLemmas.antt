-- What several calls of a disk do. Callers cite `file_from-append`, `AreAnswers-front`, `IsImage-push`, `IsImageSince-push`, `IsImage_now`,
-- `overwritten_within` and `overwritten_torn`.
use Rattle.std.proofs.Common.{◌≡◌, ◌⊎◌, ℕ, ◌+◌, ◌-◌, ◌≤◌, List, [], ◌∷◌, ◌++◌, length, take, drop, replicate, Option, Some}
use Rattle.std.specs.Prelude.{⊤}
use Rattle.std.proofs.Common.{refl, sym, ap, subst, inl, inr, ◌∙◌, arith, append_assoc, length-append, length-drop}
use Rattle.std.proofs.lemmas.Bool.{cases_lt}
use Rattle.std.proofs.lemmas.List.{take_all, take-append-le, take-append-drop, drop-drop, length-take}
use Rattle.router_disk.specs.declared.disk_call.DiskCall.{DiskCall}
use Rattle.router_disk.specs.Disk.{overwritten, Torn, file_after, file_from, file_of, AreAnswersFrom, images_after, images_from, IsImage, IsImageSince}

pub file_from-append : (known : Option (List ℕ)) (calls more : List DiskCall) → file_from known (calls ++ more) ≡ file_from (file_from known calls) more
file_from-append known [] more = refl
file_from-append known (call ∷ calls) more = file_from-append (file_after known call) calls more

-- the answers of the first calls
pub AreAnswersFrom-front : (known : Option (List ℕ)) (calls more : List DiskCall) → AreAnswersFrom known (calls ++ more) → AreAnswersFrom known calls
AreAnswersFrom-front known [] more answers = tt
AreAnswersFrom-front known (call ∷ calls) more answers = (answers.0, AreAnswersFrom-front (file_after known call) calls more answers.1)

-- and of those after them
pub AreAnswersFrom-rest : (known : Option (List ℕ)) (calls more : List DiskCall) → AreAnswersFrom known (calls ++ more) → AreAnswersFrom (file_from known calls) more
AreAnswersFrom-rest known [] more answers = answers
AreAnswersFrom-rest known (call ∷ calls) more answers = AreAnswersFrom-rest (file_after known call) calls more answers.1

pub images_from-append : (known : Option (List ℕ)) (images : List ℕ → Type 0) (calls more : List DiskCall) (image : List ℕ) →
    images_from known images (calls ++ more) image → images_from (file_from known calls) (images_from known images calls) more image
images_from-append known images [] more image left = left
images_from-append known images (call ∷ calls) more image left =
    images_from-append (file_after known call) (images_after known call images) calls more image left

pub images_from-joined : (known : Option (List ℕ)) (images : List ℕ → Type 0) (calls more : List DiskCall) (image : List ℕ) →
    images_from (file_from known calls) (images_from known images calls) more image → images_from known images (calls ++ more) image
images_from-joined known images [] more image left = left
images_from-joined known images (call ∷ calls) more image left =
    images_from-joined (file_after known call) (images_after known call images) calls more image left

-- a crash after a call leaves what it makes of what a crash might leave before
pub IsImage-push : (first : List ℕ) (calls : List DiskCall) (call : DiskCall) (image : List ℕ) → IsImage first (calls ++ call ∷ []) image →
    images_after (file_of first calls) call (IsImage first calls) image
IsImage-push first calls call image left = images_from-append (Some first) (λ _. ⊤) calls (call ∷ []) image left

-- a crash since a moment, after one more call
pub IsImageSince-push : (first : List ℕ) (calls : List DiskCall) (call : DiskCall) (since : ℕ) (image : List ℕ) →
    IsImageSince first (calls ++ call ∷ []) since image → IsImageSince first calls since image ⊎ IsImage first (calls ++ call ∷ []) image
IsImageSince-push first calls call since image left =
    elim (cases_lt (length calls) left.0) [
      | inr before ↦ inl (left.0, left.1, before, subst (λ cs. IsImage first cs image) (take-append-le left.0 calls (call ∷ []) before) left.3)
      | inl after ↦ inr (subst (λ cs. IsImage first cs image) (take_all left.0 (calls ++ call ∷ []) (omega (arith, after, length-append calls (call ∷ [])))) left.3)
    ]

-- a crash now is one since any moment up to now
pub IsImage_now : (first : List ℕ) (calls : List DiskCall) (since : ℕ) (image : List ℕ) → since ≤ length calls → IsImage first calls image →
    IsImageSince first calls since image
IsImage_now first calls since image le left =
    (length calls, le, omega arith, subst (λ cs. IsImage first cs image) (sym (take_all (length calls) calls (omega arith))) left)

-- since this moment there is no other
pub IsImageSince-now : (first : List ℕ) (calls : List DiskCall) (image : List ℕ) → IsImageSince first calls (length calls) image → IsImage first calls image
IsImageSince-now first calls image left =
    subst (λ cs. IsImage first cs image) (take_all left.0 calls (omega (arith, left.1))) left.3

-- ---- a write

-- a write within the file, or at its end
pub overwritten_within : (file : List ℕ) (at : ℕ) (bytes : List ℕ) → at ≤ length file →
    overwritten file at bytes ≡ take at file ++ (bytes ++ drop (at + length bytes) file)
overwritten_within file at [] le =
    let same : at ≡ at + 0 = omega arith in
    sym (take-append-drop at file) ∙ ap (λ (n : ℕ). take at file ++ drop n file) same
overwritten_within file at (byte ∷ bytes) le =
    let none : at - length file ≡ 0 = omega (arith, le) in
    ap (λ (n : ℕ). take at file ++ (replicate n 0 ++ ((byte ∷ bytes) ++ drop (at + length (byte ∷ bytes)) file))) none

-- a disk as it reads is one of those that a torn write may leave
pub overwritten_torn : (file : List ℕ) (at : ℕ) (bytes : List ℕ) → at ≤ length file → Torn at (length bytes) file (overwritten file at bytes)
overwritten_torn file at bytes le =
    let is = overwritten_within file at bytes le in
    let len : length (overwritten file at bytes) ≡ at + (length bytes + (length file - (at + length bytes))) =
    ap (λ m. length m) is ∙ lengths file at bytes le in
    record { middle = bytes; is = is; no_shorter = omega (arith, len); no_longer = omega (arith, len, le) }
  where
    lengths : (file : List ℕ) (at : ℕ) (bytes : List ℕ) → at ≤ length file →
        length (take at file ++ (bytes ++ drop (at + length bytes) file)) ≡ at + (length bytes + (length file - (at + length bytes)))
    lengths file at bytes le =
        omega (
          arith,
          le,
          length-append (take at file) (bytes ++ drop (at + length bytes) file),
          length-append bytes (drop (at + length bytes) file),
          length-take at file,
          length-drop (at + length bytes) file,
        )

-- what a shorter write may leave, a longer one may leave too
pub torn_longer : (at m n : ℕ) (old new : List ℕ) → m ≤ n → Torn at m old new → Torn at n old new
torn_longer at m n old new le torn =
    let there : at + m + (n - m) ≡ at + n = omega (arith, le) in
    let rest : drop (n - m) (drop (at + m) old) ≡ drop (at + n) old =
    drop-drop (n - m) (at + m) old ∙ ap (λ (k : ℕ). drop k old) there in
    record {
      middle = torn.middle ++ take (n - m) (drop (at + m) old);
      is = torn.is ∙ ap (λ m. take at old ++ (torn.middle ++ m)) (sym (take-append-drop (n - m) (drop (at + m) old)) ∙ ap (λ r. take (n - m) (drop (at + m) old) ++ r) rest)
          ∙ ap (λ m. take at old ++ m) (sym (append_assoc torn.middle (take (n - m) (drop (at + m) old)) (drop (at + n) old)));
      no_shorter = torn.no_shorter;
      no_longer = omega (arith, le, torn.no_longer);
    }

-- a crash during a write may leave nothing of it
pub torn_none : (at n : ℕ) (old : List ℕ) → Torn at n old old
torn_none at n old = record {
  middle = take n (drop at old);
  is = sym (take-append-drop at old)
      ∙ ap (λ m. take at old ++ m) (sym (take-append-drop n (drop at old)) ∙ ap (λ m. take n (drop at old) ++ m) (drop-drop n at old));
  no_shorter = omega arith;
  no_longer = omega arith;
}
