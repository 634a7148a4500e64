-- What is kept over an append.
use Rattle.std.proofs.Common.{◌≡◌, ◌⊎◌, ℕ, ◌+◌, ◌≤◌, min, List, [], ◌∷◌, ◌++◌, length, Result, Ok, Err, MatchResult}
use Rattle.std.proofs.Common.{refl, sym, ap, subst, inl, inr, ⊎_elim, ◌∙◌, arith, append_assoc}
use Rattle.std.proofs.lemmas.List.{append-nil}
use Rattle.router_disk.specs.declared.disk_call.DiskCall.{DiskCall}
use Rattle.router_disk.specs.declared.disk_call.DiskCall.TheVariants.{Write, Sync}
use Rattle.router_disk.specs.declared.fault.Failed.{Failed}
use Rattle.router_disk.specs.Disk.{AreAnswers, IsImage, IsImageSince}
use Rattle.router_disk.proofs.DiskLemmas.{IsImage_now}
use Rattle.record_file.specs.Records.{first_gate, IsFileOf, IsText}
use Rattle.record_file.specs.Kept.{Begins, Between, IsKept}
use Rattle.record_file.specs.State.{IsAtRest}
use Rattle.record_file.specs.Append.{AreAppended, IsWritten, MadeCalls, last}
use Rattle.record_file.proofs.MomentLemmas.{written_longer, written_front}
use Rattle.record_file.proofs.CrashLemmas.{Either, append_leaves, append_rests, rests_before}

weaker : (least all more : List (List ℕ)) (file : List ℕ) → Between least all file → Between least (all ++ more) file
weaker least all more file b = (b.0, b.1, b.2, (b.3.0 ++ more, ap (λ m. m ++ more) b.3.1 ∙ append_assoc b.0 b.3.0 more))

either_between : (least before more : List (List ℕ)) (image : List ℕ) → Begins least before → Either first_gate before more image → Between least (before ++ more) image
either_between least before more image low (inl is) = (before, inr is, low, (more, refl))
either_between least before more image low (inr is) =
    (before ++ more, inr is, (low.0 ++ more, ap (λ m. m ++ more) low.1 ∙ append_assoc least low.0 more), ([], sym (append-nil (before ++ more))))

-- a crash leaves the file at rest
pub at_rest_file : (first : List ℕ) (calls : List DiskCall) (ps : List (List ℕ)) (place : ℕ) → IsAtRest first_gate first calls ps place → (image : List ℕ) →
    IsImage first calls image → IsFileOf image ps
at_rest_file first calls ps place rests image left =
    subst (λ f. IsFileOf f ps) (sym (rests.settled.durable image left)) (inr (rests.begins, (rests.gate, rests.rest, rests.has, rests.closed)))

pub appended_longer : (old new : List DiskCall) (place : ℕ) (text : List ℕ) (result : Result (Unit {0}) Failed) → AreAppended old place text result new →
    length old ≤ length new
appended_longer old new place text (Ok done) calls =
    omega (arith, written_longer old (min (place + 1) last) text (Ok tt) calls.0 calls.1, written_longer calls.0 place (1 ∷ []) (Ok tt) new calls.2)
appended_longer old new place text (Err fault) (inl is) = written_longer old (min (place + 1) last) text (Err fault) new is
appended_longer old new place text (Err fault) (inr calls) =
    omega (arith, written_longer old (min (place + 1) last) text (Ok tt) calls.0 calls.1, written_longer calls.0 place (1 ∷ []) (Err fault) new calls.2)

-- the calls of a write stay, and others come after them
written_more : (old : List DiskCall) (at : ℕ) (bytes : List ℕ) (result : Result (Unit {0}) Failed) (new : List DiskCall) → IsWritten old at bytes result new →
    (more : List DiskCall) × (new ≡ old ++ more)
written_more old at bytes (Ok done) new is = (_, is)
written_more old at bytes (Err fault) new (inl is) = (_, is)
written_more old at bytes (Err fault) new (inr is) = (_, is)

pub appended_calls : (old new : List DiskCall) (place : ℕ) (text : List ℕ) (result : Result (Unit {0}) Failed) → AreAppended old place text result new →
    MadeCalls old new result
appended_calls old new place text (Ok done) (mid, first, second) =
    (_, second ∙ ap (λ m. m ++ Write place (1 ∷ []) (Ok tt) ∷ Sync (Ok tt) ∷ []) first ∙ append_assoc old _ _, refl)
appended_calls old new place text (Err fault) (inl is) = written_more old (min (place + 1) last) text (Err fault) new is
appended_calls old new place text (Err fault) (inr (mid, first, second)) =
    let more = written_more mid place (1 ∷ []) (Err fault) new second in
    (_, more.1 ∙ ap (λ m. m ++ more.0) first ∙ append_assoc old _ more.0)

pub appended_front : (first : List ℕ) (old new : List DiskCall) (place : ℕ) (text : List ℕ) (result : Result (Unit {0}) Failed) → AreAppended old place text result new →
    AreAnswers first new → AreAnswers first old
appended_front first old new place text (Ok done) calls answers =
    written_front first old (min (place + 1) last) text (Ok tt) calls.0 calls.1 (written_front first calls.0 place (1 ∷ []) (Ok tt) new calls.2 answers)
appended_front first old new place text (Err fault) (inl is) answers = written_front first old (min (place + 1) last) text (Err fault) new is answers
appended_front first old new place text (Err fault) (inr calls) answers =
    written_front first old (min (place + 1) last) text (Ok tt) calls.0 calls.1 (written_front first calls.0 place (1 ∷ []) (Err fault) new calls.2 answers)

module _ (first : List ℕ) (old new : List DiskCall) (before more : List (List ℕ)) (place : ℕ) (text : List ℕ) (rests : IsAtRest first_gate first old before place)
    (said : IsText more text) (result : Result (Unit {0}) Failed) (appended : AreAppended old place text result new) where
  headed : (image : List ℕ) → IsImageSince first new (length old) image → Either first_gate before more image
  headed image left =
      ⊎_elim (λ earlier. inl (rests_before first_gate first old before more place text rests said image earlier)) (λ now. now)
      (append_leaves first_gate first old before more place text rests said result new appended (length old) image left)

  -- during the append, and between it and the next call
  pub both : (image : List ℕ) → IsImageSince first new (length old) image → IsFileOf image before ⊎ IsFileOf image (before ++ more)
  both image left = ⊎_elim (λ old. inl (inr old)) (λ all. inr (inr all)) (headed image left)

  each : (found : List (List ℕ)) (since : ℕ) → IsKept first old found since before before → (image : List ℕ) → IsImageSince first new since image →
      Between found (before ++ more) image
  each found since kept image left =
      ⊎_elim (λ earlier. weaker found before more image (kept.each image earlier)) (λ now. either_between found before more image kept.order now)
      (append_leaves first_gate first old before more place text rests said result new appended since image left)

  failed : (found : List (List ℕ)) (since : ℕ) → IsKept first old found since before before → IsKept first new found since before (before ++ more)
  failed found since kept = record {
    order = kept.order;
    each = each found since kept;
    now = λ image left. either_between before before more image ([], sym (append-nil before))
        (headed image (IsImage_now first new (length old) image (appended_longer old new place text result appended) left));
  }

done : (first : List ℕ) (old new : List DiskCall) (before more : List (List ℕ)) (place : ℕ) (text : List ℕ) (rests : IsAtRest first_gate first old before place)
    (said : IsText more text) (appended : AreAppended old place text (Ok tt) new) → AreAnswers first new → (found : List (List ℕ)) (since : ℕ) →
    IsKept first old found since before before → IsKept first new found since (before ++ more) (before ++ more)
done first old new before more place text rests said appended answers found since kept = record {
  order = (kept.order.0 ++ more, ap (λ m. m ++ more) kept.order.1 ∙ append_assoc found kept.order.0 more);
  each = each first old new before more place text rests said (Ok tt) appended found since kept;
  now = λ image left. (
    before ++ more,
    at_rest_file first new (before ++ more) (place + length text) (append_rests first_gate first old before more place text rests said new appended answers) image left,
    ([], sym (append-nil (before ++ more))),
    ([], sym (append-nil (before ++ more))),
  );
}

pub stays : (first : List ℕ) (old new : List DiskCall) (before more : List (List ℕ)) (place : ℕ) (text : List ℕ) → IsAtRest first_gate first old before place → IsText more text →
    (result : Result (Unit {0}) Failed) → AreAppended old place text result new → AreAnswers first new → (found : List (List ℕ)) (since : ℕ) →
    IsKept first old found since before before →
    MatchResult result (λ _. IsKept first new found since (before ++ more) (before ++ more)) (λ _. IsKept first new found since before (before ++ more))
stays first old new before more place text rests said (Ok ok) appended answers found since kept =
    done first old new before more place text rests said appended answers found since kept
stays first old new before more place text rests said (Err fault) appended answers found since kept =
    failed first old new before more place text rests said (Err fault) appended found since kept
