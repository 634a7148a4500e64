-- Calls that change nothing. Callers cite the lemmas on `OnlyLooks`.
use Rattle.std.proofs.Common.{◌≡◌, ℕ, ◌≤◌, List, [], ◌∷◌, ◌++◌, length, Option, Some, None, Ok}
use Rattle.std.proofs.Common.{refl, sym, ap, subst, ⊎_elim, ◌∙◌, arith, append_assoc, length-append}
use Rattle.std.proofs.lemmas.List.{append-nil}
use Rattle.std.specs.List.{AllByRecursion}
use Rattle.router_disk.specs.declared.disk_call.DiskCall.{DiskCall}
use Rattle.router_disk.specs.declared.disk_call.DiskCall.TheVariants.{Size, Read, Write, Cut, Sync}
use Rattle.router_disk.specs.Disk.{file_after, file_from, file_of, AreAnswers, images_after, IsImage, IsImageSince}
use Rattle.router_disk.proofs.DiskLemmas.{file_from-append, AreAnswersFrom-front, IsImage-push, IsImageSince-push, IsImage_now, IsImageSince-now}
use Rattle.record_file.specs.Kept.{IsSettled, IsSettledSince, IsOpened}
use Rattle.record_file.specs.State.{IsLook, OnlyLooks}

look_keeps : (known : Option (List ℕ)) (call : DiskCall) → IsLook call → file_after known call ≡ known
look_keeps None call look = refl
look_keeps (Some file) (Size answer) look = refl
look_keeps (Some file) (Read at bytes answer) look = refl
look_keeps (Some file) (Write at bytes answer) look = absurd look
look_keeps (Some file) (Cut len answer) look = absurd look
look_keeps (Some file) (Sync answer) look = absurd look

looks_keep : (known : Option (List ℕ)) (more : List DiskCall) → AllByRecursion IsLook more → file_from known more ≡ known
looks_keep known [] looks = refl
looks_keep known (call ∷ more) looks =
    ap (λ k. file_from k more) (look_keeps known call looks.0) ∙ looks_keep known more looks.1

look_images : (known : Option (List ℕ)) (call : DiskCall) (images : List ℕ → Type 0) (image : List ℕ) → IsLook call → images_after known call images image → images image
look_images known (Size answer) images image look left = left
look_images known (Read at bytes answer) images image look left = left
look_images known (Write at bytes answer) images image look left = absurd look
look_images known (Cut len answer) images image look left = absurd look
look_images known (Sync answer) images image look left = absurd look

looks_since : (first : List ℕ) (more old : List DiskCall) (since : ℕ) (image : List ℕ) → AllByRecursion IsLook more → since ≤ length old →
    IsImageSince first (old ++ more) since image → IsImageSince first old since image
looks_since first [] old since image looks past left = subst (λ cs. IsImageSince first cs since image) (append-nil old) left
looks_since first (call ∷ more) old since image looks past left =
    ⊎_elim
    (λ before. before)
    (λ now. IsImage_now first old since image past
    (look_images (file_of first old) call (IsImage first old) image looks.0 (IsImage-push first old call image now)))
    (IsImageSince-push first old call since image
    (looks_since first more (old ++ call ∷ []) since image looks.1 (omega (arith, past, length-append old (call ∷ [])))
    (subst (λ cs. IsImageSince first cs since image) (sym (append_assoc old (call ∷ []) more)) left)))

pub OnlyLooks-none : (old : List DiskCall) → OnlyLooks old old
OnlyLooks-none old = ([], sym (append-nil old), tt)

pub OnlyLooks-one : (old new : List DiskCall) (call : DiskCall) → IsLook call → new ≡ old ++ call ∷ [] → OnlyLooks old new
OnlyLooks-one old new call look is = (call ∷ [], is, (look, tt))

all-append : (xs ys : List DiskCall) → AllByRecursion IsLook xs → AllByRecursion IsLook ys → AllByRecursion IsLook (xs ++ ys)
all-append [] ys first second = second
all-append (x ∷ xs) ys first second = (first.0, all-append xs ys first.1 second)

pub OnlyLooks-then : (old mid new : List DiskCall) → OnlyLooks old mid → OnlyLooks mid new → OnlyLooks old new
OnlyLooks-then old mid new first second = (
  first.0 ++ second.0,
  second.1 ∙ ap (λ m. m ++ second.0) first.1 ∙ append_assoc old first.0 second.0,
  all-append first.0 second.0 first.2 second.2,
)

pub OnlyLooks-file : (first : List ℕ) (old new : List DiskCall) → OnlyLooks old new → file_of first new ≡ file_of first old
OnlyLooks-file first old new looks =
    ap (λ cs. file_of first cs) looks.1 ∙ file_from-append (Some first) old looks.0 ∙ looks_keep (file_of first old) looks.0 looks.2

pub OnlyLooks-answers : (first : List ℕ) (old new : List DiskCall) → OnlyLooks old new → AreAnswers first new → AreAnswers first old
OnlyLooks-answers first old new looks answers = AreAnswersFrom-front (Some first) old looks.0 (subst (λ cs. AreAnswers first cs) looks.1 answers)

pub OnlyLooks-opened : (old new : List DiskCall) → OnlyLooks old new → (since : ℕ) → IsOpened old since → IsOpened new since
OnlyLooks-opened old new looks since opened = λ first answers.
    let o = opened first (OnlyLooks-answers first old new looks answers) in record {
      known = OnlyLooks-file first old new looks ∙ o.known;
      past = omega (arith, o.past, ap (λ m. length m) looks.1, length-append old looks.0);
      each = λ image left. o.each image
          (looks_since first looks.0 old since image looks.2 o.past (subst (λ cs. IsImageSince first cs since image) looks.1 left));
    }

-- what a disk that was opened leaves now
pub opened_settled : (first : List ℕ) (calls : List DiskCall) (since : ℕ) (file : List ℕ) → IsSettledSince first calls since file → IsSettled first calls file
opened_settled first calls since file o = record { known = o.known; durable = λ image left. o.each image (IsImage_now first calls since image o.past left) }

-- a disk that was just opened, after its first sync
pub opened_by_sync : (old new : List DiskCall) → old ≡ [] → new ≡ old ++ Sync (Ok tt) ∷ [] → IsOpened new 1
opened_by_sync old new none is = subst (λ cs. IsOpened cs 1) (sym (is ∙ ap (λ m. m ++ Sync (Ok tt) ∷ []) none)) (λ first answers. record {
  known = refl;
  past = omega arith;
  each = λ image left. IsImageSince-now first (Sync (Ok tt) ∷ []) image left;
})
