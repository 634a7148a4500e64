-- Lemmas on `marks_in`: its length, the mark at a place, and what a word's change does to it
use Rattle.std.proofs.Common.{◌≡◌, ◌≢◌, ℕ, ◌*◌, ◌/◌, ◌%◌, ◌^◌, ◌<◌, Bool, true, false, List, length, replicate, get_or, refl, sym, ◌∙◌}
use Rattle.std.proofs.Common.{arith, ⊎_elim, bit_and, bit_or, w64, eqb, Some, slice_get}
use Rattle.std.proofs.Math.ListN.{set}
use Rattle.std.proofs.lemmas.List.{get_or-set_same, get_or-set_other, length-set, get_or-replicate, length-replicate, get_or_past}
use Rattle.std.proofs.lemmas.List.FromFn.{length-map-range_with_len, get_or-map-range_with_len, fill_by_all}
use Rattle.std.proofs.lemmas.Nat.Bits.{bit_at_set_same, bit_at_set_other, bit_at-zero, shr_and_one}
use Rattle.std.proofs.lemmas.Bool.{cases_eq, cases_lt}
use Rattle.std.proofs.lemmas.Grind.{get_or_default_zero}
use Rattle.std.proofs.lemmas.Option.{slice_get-get_or}
use Rattle.numeric_keys.specs.Marks.{marks_in, is_marked}

pub length-marks_in : (words : List ℕ) (places : ℕ) → length (marks_in words places) ≡ places
unfolding marks_in
length-marks_in words places = length-map-range_with_len (is_marked words) 0 places

get_or-marks_in : (words : List ℕ) (places k : ℕ) (d : Bool) → k < places →
    get_or (marks_in words places) k d ≡ is_marked words k
unfolding marks_in
get_or-marks_in words places k d h =
    get_or-map-range_with_len (is_marked words) 0 places k k d h (omega arith)

-- words of zeros have no mark
pub marks_in-zeros : (words : List ℕ) (n places : ℕ) → words ≡ replicate n 0 →
    marks_in words places ≡ replicate places false
unfolding marks_in
marks_in-zeros words n places zeros =
    sym (fill_by_all (is_marked words) (replicate places false) places false
    (length-replicate places false) (λ k h.
    let none : is_marked words k ≡ false =
    rw zeros (rw (word_of_zeros n (k / 64)) (rw (bit_at-zero (k % 64)) refl)) in
    get_or-replicate places k false false h ∙ sym none))
  where
    word_of_zeros : (n i : ℕ) → ◌≡◌ {A = ℕ} (get_or (replicate n 0) i 0) 0
    word_of_zeros n i = ⊎_elim (λ h. get_or-replicate n i 0 0 h)
        (λ h. get_or_past (replicate n 0) i 0 (rw length-replicate h)) (cases_lt i n)

-- the read of a mark as the code makes it
pub is_marked-read : (words : List ℕ) (places k w : ℕ) → k < places → k / 64 < length words →
    w ≡ get_or words (k / 64) w →
    slice_get (marks_in words places) k ≡ Some (eqb (bit_and (w / 2 ^ (k % 64)) 1) 1)
is_marked-read words places k w h within read =
    let inside : k < length (marks_in words places) = rw length-marks_in h in
    let word : w ≡ get_or words (k / 64) 0 = read ∙ get_or_default_zero words (k / 64) w within in
    rw (slice_get-get_or (marks_in words places) k false inside)
    (rw (get_or-marks_in words places k false h) (rw (shr_and_one w (k % 64)) (rw (← word) refl)))

-- the words after the bit of a place was set
after_set : List ℕ → ℕ → ℕ → List ℕ
after_set words k w = set words (k / 64) (bit_or w (1 * 2 ^ (k % 64) % 2 ^ 64))

is_marked-set_same : (words : List ℕ) (k w : ℕ) → k / 64 < length words →
    is_marked (after_set words k w) k ≡ true
unfolding after_set
is_marked-set_same words k w h =
    let small : k % 64 < 64 = omega arith in
    rw (get_or-set_same words (k / 64) (bit_or w (1 * 2 ^ (k % 64) % 2 ^ 64)) 0 h)
    (rw (bit_at_set_same w64 w (k % 64) small) refl)

is_marked-set_other : (words : List ℕ) (k j w : ℕ) → k / 64 < length words →
    w ≡ get_or words (k / 64) 0 → j ≢ k →
    is_marked words j ≡ is_marked (after_set words k w) j
unfolding after_set
is_marked-set_other words k j w h read other =
    ⊎_elim same_word other_word (cases_eq (j / 64) (k / 64))
  where
    same_word : j / 64 ≡ k / 64 →
        is_marked words j ≡ is_marked (set words (k / 64) (bit_or w (1 * 2 ^ (k % 64) % 2 ^ 64))) j
    same_word e =
        let small : k % 64 < 64 = omega arith in
        let apart : j % 64 ≢ k % 64 = omega arith in
        rw (e, get_or-set_same words (k / 64) (bit_or w (1 * 2 ^ (k % 64) % 2 ^ 64)) 0 h)
        (rw (bit_at_set_other w64 w (k % 64) small (j % 64) apart) (rw (← read) refl))

    other_word : j / 64 ≢ k / 64 →
        is_marked words j ≡ is_marked (set words (k / 64) (bit_or w (1 * 2 ^ (k % 64) % 2 ^ 64))) j
    other_word apart = rw
        (get_or-set_other words (k / 64) (j / 64)
        (bit_or w (1 * 2 ^ (k % 64) % 2 ^ 64)) 0 apart) refl

-- the write of a mark as the code makes it
pub marks_in-set : (words : List ℕ) (places k w : ℕ) → k < places → k / 64 < length words →
    w ≡ get_or words (k / 64) w →
    marks_in (set words (k / 64) (bit_or w (1 * 2 ^ (k % 64) % 2 ^ 64))) places ≡ set
    (marks_in words places) k true
unfolding marks_in after_set
marks_in-set words places k w h within read =
    sym (fill_by_all (is_marked (after_set words k w))
    (set (marks_in words places) k true) places false
    (length-set (marks_in words places) k true ∙ length-marks_in words places)
    (λ j inside. ⊎_elim (same j inside) (other j inside) (cases_eq j k)))
  where
    same : (j : ℕ) → j < places → j ≡ k →
        get_or (set (marks_in words places) k true) j false ≡ is_marked (after_set words k w) j
    same j inside e =
        let whole : k < length (marks_in words places) = rw length-marks_in h in
        rw e (get_or-set_same (marks_in words places) k true false whole
        ∙ sym (is_marked-set_same words k w within))

    other : (j : ℕ) → j < places → j ≢ k →
        get_or (set (marks_in words places) k true) j false ≡ is_marked (after_set words k w) j
    other j inside apart =
        get_or-set_other (marks_in words places) k j true false apart
        ∙ get_or-marks_in words places j false inside
        ∙ is_marked-set_other words k j w within (read
        ∙ get_or_default_zero words (k / 64) w within) apart
