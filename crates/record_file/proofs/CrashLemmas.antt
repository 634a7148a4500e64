-- What a crash leaves of a file of records during an append. Callers cite `Appended` and its parts.
use Rattle.std.proofs.Common.{◌≡◌, ◌≢◌, ◌⊎◌, ℕ, ◌+◌, ◌^◌, ◌<◌, ◌≤◌, min, max, List, [], ◌∷◌, ◌++◌, length, take, drop, Result, Ok, Err}
use Rattle.std.proofs.Common.{sym, ap, subst, inl, inr, ⊎_elim, ◌∙◌, arith, append_assoc, length-append}
use Rattle.std.proofs.lemmas.Bool.{cases_eq}
use Rattle.std.proofs.lemmas.List.{take_at, drop_at, length_push}
use Rattle.std.specs.List.{AllByRecursion}
use Rattle.router_disk.specs.declared.disk_call.DiskCall.{DiskCall}
use Rattle.router_disk.specs.declared.fault.Failed.{Failed}
use Rattle.router_disk.specs.Disk.{overwritten, AreAnswers, Torn, IsImageSince}
use Rattle.router_disk.proofs.DiskLemmas.{IsImageSince-now, overwritten_within}
use Rattle.record_file.specs.Records.{records, Fits, HasRecords, IsHeaded, IsText}
use Rattle.record_file.specs.Kept.{IsSettled}
use Rattle.record_file.specs.State.{IsAtRest}
use Rattle.record_file.specs.Append.{IsWritten, AreAppended, last}
use Rattle.record_file.proofs.RecordLemmas.{IsFront, front_is, past_front, whole, whole_is, whole_begins, whole_has, whole_file, fit-append, joined, length-laid, records-append}
use Rattle.record_file.proofs.MomentLemmas.{leaves, settles, write_fits, written_front}

-- a file as its front, one byte and the rest
module _ (front : List ℕ) (place : ℕ) (size : length front ≡ place) where
  pushed : (g : ℕ) (t : List ℕ) → front ++ (g ∷ t) ≡ (front ++ g ∷ []) ++ t
  pushed g t = sym (append_assoc front (g ∷ []) t)

  pushed_size : (g : ℕ) → length (front ++ g ∷ []) ≡ place + 1
  pushed_size g = omega (arith, length_push front g, size)

  kept_front : (g : ℕ) (t rest : List ℕ) → take (place + 1) (front ++ (g ∷ t)) ++ rest ≡ front ++ (g ∷ rest)
  kept_front g t rest =
      ap (λ m. m ++ rest) (ap (λ m. take (place + 1) m) (pushed g t) ∙ take_at (front ++ g ∷ []) t (place + 1) (pushed_size g))
      ∙ append_assoc front (g ∷ []) rest

  after : (g : ℕ) (t : List ℕ) → drop (place + 1) (front ++ (g ∷ t)) ≡ t
  after g t = ap (λ m. drop (place + 1) m) (pushed g t) ∙ drop_at (front ++ g ∷ []) t (place + 1) (pushed_size g)

  long : (g : ℕ) (t : List ℕ) → length (front ++ (g ∷ t)) ≡ place + 1 + length t
  long g t = omega (arith, length-append front (g ∷ t), size)

  -- bytes after the gate
  pub lay_torn : (g : ℕ) (t : List ℕ) (n : ℕ) (image : List ℕ) → Torn (place + 1) n (front ++ (g ∷ t)) image → (tail : List ℕ) × (image ≡ front ++ (g ∷ tail))
  lay_torn g t n image torn = (torn.middle ++ drop (place + 1 + n) (front ++ (g ∷ t)), torn.is ∙ kept_front g t _)

  pub lay_done : (g : ℕ) (t text : List ℕ) → overwritten (front ++ (g ∷ t)) (place + 1) text ≡ front ++ (g ∷ (text ++ drop (place + 1 + length text) (front ++ (g ∷ t))))
  lay_done g t text = overwritten_within (front ++ (g ∷ t)) (place + 1) text (omega (arith, long g t)) ∙ kept_front g t _

  -- the gate
  one_byte : (g : ℕ) (t middle image : List ℕ) → image ≡ front ++ (middle ++ t) → length (front ++ (g ∷ t)) ≤ length image →
      length image ≤ max (length (front ++ (g ∷ t))) (place + 1) → (m : ℕ) × (image ≡ front ++ (m ∷ t))
  one_byte g t [] image is low high =
      absurd (omega (arith, long g t, low, ap (λ m. length m) is, length-append front t, size))
  one_byte g t (m ∷ []) image is low high = (m, is)
  one_byte g t (m ∷ k ∷ middle) image is low high =
      absurd (omega (arith, long g t, high, ap (λ m. length m) is, length-append front ((m ∷ k ∷ middle) ++ t), length-append (m ∷ k ∷ middle) t, size))

  pub open_torn : (g : ℕ) (t image : List ℕ) → Torn place 1 (front ++ (g ∷ t)) image → (m : ℕ) × (image ≡ front ++ (m ∷ t))
  open_torn g t image torn =
      one_byte g t torn.middle image
      (torn.is ∙ ap (λ m. m ++ (torn.middle ++ drop (place + 1) (front ++ (g ∷ t)))) (take_at front (g ∷ t) place size)
      ∙ ap (λ m. front ++ (torn.middle ++ m)) (after g t))
      torn.no_shorter torn.no_longer

  pub open_done : (g : ℕ) (t : List ℕ) → overwritten (front ++ (g ∷ t)) place (1 ∷ []) ≡ front ++ (1 ∷ t)
  open_done g t =
      overwritten_within (front ++ (g ∷ t)) place (1 ∷ []) (omega (arith, long g t))
      ∙ ap (λ m. m ++ (1 ∷ drop (place + 1) (front ++ (g ∷ t)))) (take_at front (g ∷ t) place size)
      ∙ ap (λ m. front ++ (1 ∷ m)) (after g t)

-- the front of a file of records, up to the gate
abbrev front_of : List ℕ → List (List ℕ) → List ℕ
front_of front ps = front ++ records ps

whole_front : (front : List ℕ) (ps : List (List ℕ)) (gate : ℕ) (rest : List ℕ) → whole front ps gate rest ≡ front_of front ps ++ (gate ∷ rest)
whole_front front ps gate rest = sym (append_assoc front (records ps) (gate ∷ rest))

-- A file of the payloads before, or of these and more, whose first gate is at this place.
abbrev pub Either : ℕ → List (List ℕ) → List (List ℕ) → List ℕ → Type 0
Either at before more image = IsHeaded at image before ⊎ IsHeaded at image (before ++ more)

module _ (at : ℕ) (first : List ℕ) (old : List DiskCall) (before more : List (List ℕ)) (place : ℕ) (text : List ℕ) (rests : IsAtRest at first old before place)
    (said : IsText more text) where
  -- what is before the first gate
  abbrev front : List ℕ
  front = take at rests.file

  is_front : IsFront at front
  is_front = front_is at rests.file (past_front at rests.file before rests.gate rests.rest rests.has) rests.after rests.begins

  size : length (front_of front before) ≡ place
  size = omega (arith, length-append front (records before), is_front.size, rests.gate_place)

  fit : AllByRecursion Fits before
  fit = rests.has.fit

  file_is : rests.file ≡ front_of front before ++ (rests.gate ∷ rests.rest)
  file_is = whole_is at rests.file before rests.gate rests.rest rests.has ∙ whole_front front before rests.gate rests.rest

  within : place + 1 ≤ length rests.file
  within = omega (arith, ap (λ m. length m) file_is, long (front_of front before) place size rests.gate rests.rest)

  place_is : min (place + 1) last ≡ place + 1
  place_is = omega (arith, rests.low)

  -- what is left after the text that is laid
  abbrev tail : List ℕ
  tail = drop (place + 1 + length text) (front_of front before ++ (rests.gate ∷ rests.rest))

  abbrev laid_file : List ℕ
  laid_file = overwritten rests.file (place + 1) text

  laid_is : laid_file ≡ front_of front before ++ (rests.gate ∷ (text ++ tail))
  laid_is = ap (λ f. overwritten f (place + 1) text) file_is ∙ lay_done (front_of front before) place size rests.gate rests.rest text

  closed_file : (image t : List ℕ) (gate : ℕ) → gate ≢ 1 → image ≡ front_of front before ++ (gate ∷ t) → IsHeaded at image before
  closed_file image t gate closed is = whole_file at front is_front image before gate t fit closed (is ∙ sym (whole_front front before gate t))

  -- while the text is laid the gate is closed
  lay_leaves : (image : List ℕ) → Torn (place + 1) (length text) rests.file image → IsHeaded at image before
  lay_leaves image torn =
      let parts = lay_torn (front_of front before) place size rests.gate rests.rest (length text) image (subst (λ f. Torn (place + 1) (length text) f image) file_is torn) in
      closed_file image parts.0 rests.gate rests.closed parts.1

  -- the file with an open gate has all that was laid
  open_is : (image : List ℕ) → image ≡ front_of front before ++ (1 ∷ (text ++ tail)) → image ≡ whole front (before ++ more) 0 tail
  open_is image is =
      is ∙ sym (whole_front front before 1 (text ++ tail)) ∙ ap (λ m. whole front before 1 (m ++ tail)) said.is ∙ joined front before more tail said.some

  open_file : (image : List ℕ) → image ≡ front_of front before ++ (1 ∷ (text ++ tail)) → IsHeaded at image (before ++ more)
  open_file image is =
      whole_file at front is_front image (before ++ more) 0 tail (fit-append before more fit said.fit) (λ no. absurd (omega (arith, no))) (open_is image is)

  open_leaves : (image : List ℕ) → Torn place 1 laid_file image → Either at before more image
  open_leaves image torn =
      let byte = open_torn (front_of front before) place size rests.gate (text ++ tail) image (subst (λ f. Torn place 1 f image) laid_is torn) in
      elim (cases_eq byte.0 1) [
        | inl one ↦ inr (open_file image (byte.1 ∙ ap (λ m. front_of front before ++ (m ∷ (text ++ tail))) one))
        | inr closed ↦ inl (closed_file image (text ++ tail) byte.0 closed byte.1)
      ]

  open_rests : (new : List DiskCall) → IsSettled first new (overwritten laid_file place (1 ∷ [])) → place + length text < 2 ^ 63 →
      IsAtRest at first new (before ++ more) (place + length text)
  open_rests new settled low =
      let is = ap (λ f. overwritten f place (1 ∷ [])) laid_is ∙ open_done (front_of front before) place size rests.gate (text ++ tail) in
      let all = open_is _ is in
      record {
        file = overwritten laid_file place (1 ∷ []);
        settled = settled;
        begins = ap (λ f. take 8 f) all ∙ whole_begins at front is_front (before ++ more) 0 tail;
        after = rests.after;
        gate = 0;
        rest = tail;
        has = subst (λ f. HasRecords at f (before ++ more) 0 tail) (sym all)
            (whole_has at front is_front (before ++ more) 0 tail (fit-append before more fit said.fit));
        closed = λ no. absurd (omega (arith, no));
        gate_place = place_grows;
        low = low;
      }
    where
      place_grows : place + length text ≡ at + length (records (before ++ more))
      place_grows =
          omega (
            arith,
            rests.gate_place,
            ap (λ m. length m) said.is,
            length-laid more said.some,
            ap (λ m. length m) (records-append before more),
            length-append (records before) (records more),
          )

  laid_written : (mid : List DiskCall) → IsWritten old (min (place + 1) last) text (Ok tt) mid → IsWritten old (place + 1) text (Ok tt) mid
  laid_written mid is = subst (λ (n : ℕ). IsWritten old n text (Ok tt) mid) place_is is

  laid_settled : (mid : List DiskCall) → IsWritten old (min (place + 1) last) text (Ok tt) mid → IsSettled first mid laid_file
  laid_settled mid is = settles first old rests.file rests.settled (place + 1) text within mid (laid_written mid is)

  gate_within : place ≤ length laid_file
  gate_within = omega (arith, ap (λ m. length m) laid_is, long (front_of front before) place size rests.gate (text ++ tail))

  lay_since : (result : Result (Unit {0}) Failed) (mid : List DiskCall) → IsWritten old (min (place + 1) last) text result mid → (since : ℕ) (image : List ℕ) →
      IsImageSince first mid since image → IsImageSince first old since image ⊎ Either at before more image
  lay_since result mid is since image left =
      leaves first old rests.file rests.settled (place + 1) text within (Either at before more) (λ c torn. inl (lay_leaves c torn)) result mid
      (subst (λ (n : ℕ). IsWritten old n text result mid) place_is is) since image left

  open_since : (result : Result (Unit {0}) Failed) (mid new : List DiskCall) → IsWritten old (min (place + 1) last) text (Ok tt) mid →
      IsWritten mid place (1 ∷ []) result new → (since : ℕ) (image : List ℕ) → IsImageSince first new since image →
      IsImageSince first old since image ⊎ Either at before more image
  open_since result mid new is opens since image left =
      ⊎_elim (λ earlier. lay_since (Ok tt) mid is since image earlier) (λ now. inr now)
      (leaves first mid laid_file (laid_settled mid is) place (1 ∷ []) gate_within (Either at before more) open_leaves result new opens since image left)

  -- A crash since any moment might have left what it might have left before the append, or a file of the payloads before, or of all.
  pub append_leaves : (result : Result (Unit {0}) Failed) (new : List DiskCall) → AreAppended old place text result new → (since : ℕ) (image : List ℕ) →
      IsImageSince first new since image → IsImageSince first old since image ⊎ Either at before more image
  append_leaves (Ok done) new calls since image left = open_since (Ok tt) calls.0 new calls.1 calls.2 since image left
  append_leaves (Err fault) new (inl is) since image left = lay_since (Err fault) new is since image left
  append_leaves (Err fault) new (inr calls) since image left = open_since (Err fault) calls.0 new calls.1 calls.2 since image left

  -- After an `Ok` the file is at rest again, with all payloads.
  pub append_rests : (new : List DiskCall) → AreAppended old place text (Ok tt) new → AreAnswers first new →
      IsAtRest at first new (before ++ more) (place + length text)
  append_rests new calls answers =
      open_rests new (settles first calls.0 laid_file (laid_settled calls.0 calls.1) place (1 ∷ []) gate_within new calls.2)
      (grows (write_fits first old rests.file rests.settled (place + 1) text within calls.0 (laid_written calls.0 calls.1)
      (written_front first calls.0 place (1 ∷ []) (Ok tt) new calls.2 answers)))
    where
      grows : place + 1 + length text < 2 ^ 63 → place + length text < 2 ^ 63
      grows low = omega (arith, low)

  -- before the first call a crash leaves the file at rest
  pub rests_before : (image : List ℕ) → IsImageSince first old (length old) image → IsHeaded at image before
  rests_before image left =
      let is = rests.settled.durable image (IsImageSince-now first old image left) in
      closed_file image rests.rest rests.gate rests.closed (is ∙ file_is)
