-- What a write and the sync after it do to what a crash may leave. Callers cite `leaves`, `settles` and `write_fits`.
use Rattle.std.proofs.Common.{◌≡◌, ◌⊎◌, ℕ, ◌+◌, ◌^◌, ◌<◌, ◌≤◌, List, [], ◌∷◌, ◌++◌, length, Option, Some, Result, Ok, Err}
use Rattle.std.proofs.Common.{sym, ap, subst, inl, inr, ⊎_elim, ◌∙◌, arith, append_assoc, length-append}
use Rattle.router_disk.specs.declared.disk_call.DiskCall.{DiskCall}
use Rattle.router_disk.specs.declared.disk_call.DiskCall.TheVariants.{Write, Sync}
use Rattle.router_disk.specs.declared.fault.Failed.{Failed}
use Rattle.router_disk.specs.Disk.{overwritten, file_after, file_of, IsAnswer, AreAnswers, Torn, images_after, IsImage, IsImageSince}
use Rattle.router_disk.proofs.DiskLemmas.{file_from-append, AreAnswersFrom-front, AreAnswersFrom-rest, IsImage-push, IsImageSince-push, overwritten_torn}
use Rattle.record_file.specs.Kept.{IsSettled}
use Rattle.record_file.specs.Append.{IsWritten}

two_calls : (old : List DiskCall) (a b : DiskCall) → old ++ a ∷ b ∷ [] ≡ (old ++ a ∷ []) ++ b ∷ []
two_calls old a b = sym (append_assoc old (a ∷ []) (b ∷ []))

after_one : (first : List ℕ) (old : List DiskCall) (call : DiskCall) (known : Option (List ℕ)) → file_of first old ≡ known →
    file_of first (old ++ call ∷ []) ≡ file_after known call
after_one first old call known is = file_from-append (Some first) old (call ∷ []) ∙ ap (λ k. file_after k call) is

pub answer_one : (first : List ℕ) (old more : List DiskCall) (call : DiskCall) (known : Option (List ℕ)) → file_of first old ≡ known →
    AreAnswers first (old ++ call ∷ more) → IsAnswer known call
answer_one first old more call known is answers =
    subst (λ k. IsAnswer k call) is (AreAnswersFrom-rest (Some first) old (call ∷ more) answers).0

-- the calls before a write stay
pub written_longer : (old : List DiskCall) (at : ℕ) (bytes : List ℕ) (result : Result (Unit {0}) Failed) (new : List DiskCall) → IsWritten old at bytes result new →
    length old ≤ length new
written_longer old at bytes (Ok done) new is = omega (arith, ap (λ m. length m) is, length-append old (Write at bytes (Ok tt) ∷ Sync (Ok tt) ∷ []))
written_longer old at bytes (Err fault) new (inl is) = omega (arith, ap (λ m. length m) is, length-append old (Write at bytes (Err fault) ∷ []))
written_longer old at bytes (Err fault) new (inr is) =
    omega (arith, ap (λ m. length m) is, length-append old (Write at bytes (Ok tt) ∷ Sync (Err fault) ∷ []))

pub written_front : (first : List ℕ) (old : List DiskCall) (at : ℕ) (bytes : List ℕ) (result : Result (Unit {0}) Failed) (new : List DiskCall) →
    IsWritten old at bytes result new → AreAnswers first new → AreAnswers first old
written_front first old at bytes (Ok done) new is answers = AreAnswersFrom-front (Some first) old _ (subst (λ cs. AreAnswers first cs) is answers)
written_front first old at bytes (Err fault) new (inl is) answers = AreAnswersFrom-front (Some first) old _ (subst (λ cs. AreAnswers first cs) is answers)
written_front first old at bytes (Err fault) new (inr is) answers = AreAnswersFrom-front (Some first) old _ (subst (λ cs. AreAnswers first cs) is answers)

module _ (first : List ℕ) (old : List DiskCall) (file : List ℕ) (settled : IsSettled first old file) (at : ℕ) (bytes : List ℕ) (within : at ≤ length file) where
  torn_one : (answer : Result (Unit {0}) Failed) (image : List ℕ) → IsImage first (old ++ Write at bytes answer ∷ []) image → Torn at (length bytes) file image
  torn_one answer image left =
      let from = IsImage-push first old (Write at bytes answer) image left in
      subst (λ f. Torn at (length bytes) f image) (settled.durable from.0 from.1) from.2

  known_one : file_of first (old ++ Write at bytes (Ok tt) ∷ []) ≡ Some (overwritten file at bytes)
  known_one = after_one first old (Write at bytes (Ok tt)) (Some file) settled.known

  synced_ok : (image : List ℕ) → IsImage first ((old ++ Write at bytes (Ok tt) ∷ []) ++ Sync (Ok tt) ∷ []) image → image ≡ overwritten file at bytes
  synced_ok image left =
      subst (λ k. images_after k (Sync (Ok tt)) (IsImage first (old ++ Write at bytes (Ok tt) ∷ [])) image) known_one
      (IsImage-push first (old ++ Write at bytes (Ok tt) ∷ []) (Sync (Ok tt)) image left)

  synced_err : (fault : Failed) (image : List ℕ) → IsImage first ((old ++ Write at bytes (Ok tt) ∷ []) ++ Sync (Err fault) ∷ []) image →
      IsImage first (old ++ Write at bytes (Ok tt) ∷ []) image
  synced_err fault image left =
      subst (λ k. images_after k (Sync (Err fault)) (IsImage first (old ++ Write at bytes (Ok tt) ∷ [])) image) known_one
      (IsImage-push first (old ++ Write at bytes (Ok tt) ∷ []) (Sync (Err fault)) image left)

  -- after an `Ok` the bytes are on the disk
  pub settles : (new : List DiskCall) → IsWritten old at bytes (Ok tt) new → IsSettled first new (overwritten file at bytes)
  settles new is =
      subst (λ cs. IsSettled first cs (overwritten file at bytes)) (sym (is ∙ two_calls old (Write at bytes (Ok tt)) (Sync (Ok tt)))) (record {
        known = after_one first (old ++ Write at bytes (Ok tt) ∷ []) (Sync (Ok tt)) (Some (overwritten file at bytes)) known_one;
        durable = synced_ok;
      })

  -- a write that succeeded ends below 2^63
  pub write_fits : (new : List DiskCall) → IsWritten old at bytes (Ok tt) new → AreAnswers first new → at + length bytes < 2 ^ 63
  write_fits new is answers =
      answer_one first old (Sync (Ok tt) ∷ []) (Write at bytes (Ok tt)) (Some file) settled.known (subst (λ cs. AreAnswers first cs) is answers)

  module _ (P : List ℕ → Type 0) (torn : (image : List ℕ) → Torn at (length bytes) file image → P image) where
    one : (answer : Result (Unit {0}) Failed) (since : ℕ) (image : List ℕ) → IsImageSince first (old ++ Write at bytes answer ∷ []) since image →
        IsImageSince first old since image ⊎ P image
    one answer since image left =
        ⊎_elim (λ before. inl before) (λ now. inr (torn image (torn_one answer image now))) (IsImageSince-push first old (Write at bytes answer) since image left)

    two : (answer : Result (Unit {0}) Failed) → ((image : List ℕ) → IsImage first ((old ++ Write at bytes (Ok tt) ∷ []) ++ Sync answer ∷ []) image → P image) →
        (since : ℕ) (image : List ℕ) → IsImageSince first (old ++ Write at bytes (Ok tt) ∷ Sync answer ∷ []) since image →
        IsImageSince first old since image ⊎ P image
    two answer here since image left =
        ⊎_elim (λ before. one (Ok tt) since image before) (λ now. inr (here image now))
        (IsImageSince-push first (old ++ Write at bytes (Ok tt) ∷ []) (Sync answer) since image
        (subst (λ cs. IsImageSince first cs since image) (two_calls old (Write at bytes (Ok tt)) (Sync answer)) left))

    -- A crash since any moment might have left what it might have left before the write, or what has P.
    pub leaves : (result : Result (Unit {0}) Failed) (new : List DiskCall) → IsWritten old at bytes result new → (since : ℕ) (image : List ℕ) →
        IsImageSince first new since image → IsImageSince first old since image ⊎ P image
    leaves (Ok done) new is since image left =
        two (Ok tt) (λ c now. torn c (subst (λ m. Torn at (length bytes) file m) (sym (synced_ok c now)) (overwritten_torn file at bytes within)))
        since image (subst (λ cs. IsImageSince first cs since image) is left)
    leaves (Err fault) new (inl is) since image left = one (Err fault) since image (subst (λ cs. IsImageSince first cs since image) is left)
    leaves (Err fault) new (inr is) since image left =
        two (Err fault) (λ c now. torn c (torn_one (Ok tt) c (synced_err fault c now))) since image (subst (λ cs. IsImageSince first cs since image) is left)
