-- What is at a gate, from the pieces of the file that a window shows. Callers cite `window_piece` and the lemmas named `found_`.
use Rattle.std.proofs.Common.{◌≡◌, ℕ, ◌+◌, ◌-◌, ◌^◌, ◌<◌, ◌≤◌, min, List, [], ◌∷◌, ◌++◌, length, get_or, take, drop, refl, sym, ap, subst, ◌∙◌, arith}
use Rattle.std.proofs.Common.{length-append, length-drop}
use Rattle.std.proofs.lemmas.List.{take-append-drop, take-take, drop-take, drop-drop, drop_more, length-take, take_all, append-nil, drop_all}
use Rattle.std.proofs.Common.{Some, Result, Ok, Err}
use Rattle.router_disk.specs.declared.disk_call.DiskCall.{DiskCall}
use Rattle.router_disk.specs.declared.disk_call.DiskCall.TheVariants.{Read}
use Rattle.router_disk.specs.declared.fault.Failed.{Failed}
use Rattle.router_disk.specs.Faults.{Rose}
use Rattle.router_disk.specs.Disk.{AreAnswers, file_of}
use Rattle.record_file.specs.declared.find.Found.{Found}
use Rattle.record_file.specs.declared.find.Head.TheVariants as heads
use Rattle.record_file.specs.declared.find.Found.TheVariants as founds
use Rattle.record_file.specs.declared.window.Window.{Window}
use Rattle.record_file.specs.Records.{length_bytes, HasNoRecord}
use Rattle.record_file.specs.State.{Counts, IsWindowOf, Covers, piece_of}
use Rattle.record_file.specs.Next.{IsHead, IsFoundAt, PayloadIs}
use Rattle.record_file.proofs.MomentLemmas.{answer_one}
use Rattle.record_file.proofs.RecordLemmas.{length-length_bytes, length_bytes-same, parts_same}

piece : (xs : List ℕ) (d len m : ℕ) → d + len ≤ m → take len (drop d (take m xs)) ≡ take len (drop d xs)
piece xs d len m le =
    let split : m ≡ d + (m - d) = omega (arith, le) in
    ap (λ (n : ℕ). take len (drop d (take n xs))) split ∙ ap (λ ys. take len ys) (drop-take d (m - d) xs)
    ∙ take-take len (m - d) (drop d xs) (omega (arith, le))

-- a piece of a window is that piece of the file
pub window_piece : (file : List ℕ) (w : Window) (at len : ℕ) → IsWindowOf file w → Covers w at len → piece_of w at len ≡ take len (drop at file)
window_piece file w at len is covers =
    let there : w.at + (at - w.at) ≡ at = omega (arith, covers.0) in
    ap (λ bytes. take len (drop (at - w.at) bytes)) is
    ∙ piece (drop w.at file) (at - w.at) len (length w.bytes.items) (omega (arith, covers.0, covers.1))
    ∙ ap (λ ys. take len ys) (drop-drop (at - w.at) w.at file ∙ ap (λ (n : ℕ). drop n file) there)

front_is : (xs ps : List ℕ) (k : ℕ) → ps ≡ take k xs → xs ≡ ps ++ drop k xs
front_is xs ps k is = sym (take-append-drop k xs) ∙ ap (λ m. m ++ drop k xs) (sym is)

short_none : (rest : List ℕ) → length rest < 9 → HasNoRecord rest
short_none rest short payload more gate fits is =
    absurd (omega (
      arith,
      short,
      ap (λ m. length m) is,
      length-append (length_bytes (length payload)) (payload ++ (gate ∷ more)),
      length-length_bytes (length payload),
      length-append payload (gate ∷ more),
    ))

-- a length that runs past the end
long_none : (len : ℕ) (tail : List ℕ) → len < 2 ^ 64 → length tail ≤ len → HasNoRecord (length_bytes len ++ tail)
long_none len tail fits short payload more gate fits_p is =
    let both = parts_same (length_bytes len) (length_bytes (length payload)) tail (payload ++ (gate ∷ more))
    (length-length_bytes len ∙ sym (length-length_bytes (length payload))) is in
    let same = length_bytes-same len (length payload) fits fits_p both.0 in
    absurd (omega (arith, short, same, ap (λ m. length m) both.1, length-append payload (gate ∷ more)))

module _ (file : List ℕ) (place : ℕ) (k : ℕ) (head : List ℕ) (is : head ≡ take k (drop place file)) where
  pub found_closed : IsHead head heads.Closed → IsFoundAt file place founds.Closed
  found_closed h =
      (h.0, h.1 ++ drop k (drop place file), front_is (drop place file) head k is ∙ ap (λ m. m ++ drop k (drop place file)) h.2, h.3)

  pub found_short : k ≡ min (length file - place) 9 → IsHead head heads.Short → IsFoundAt file place founds.Damaged
  found_short few h =
      let len = ap (λ m. length m) (sym h.1 ∙ is) in
      let whole : length (drop place file) ≤ k = omega (arith, few, h.2, len, length-take k (drop place file), length-drop place file) in
      (h.0, sym (take_all k (drop place file) whole) ∙ sym is ∙ h.1, short_none h.0 (omega (arith, h.2)))

  -- a gate with a length
  pub head_whole : (len : ℕ) → head ≡ 1 ∷ length_bytes len → k ≤ 9 → k ≤ length file - place →
      (k ≡ 9) × (drop place file ≡ 1 ∷ (length_bytes len ++ drop (place + 9) file))
  head_whole len shape most within =
      let size = ap (λ m. length m) (sym shape ∙ is) in
      let nine : k ≡ 9 = omega (arith, most, within, size, length-length_bytes len, length-take k (drop place file), length-drop place file) in (
        nine,
        front_is (drop place file) head k is ∙ ap (λ m. m ++ drop k (drop place file)) shape
            ∙ ap (λ m. 1 ∷ (length_bytes len ++ m)) (ap (λ (n : ℕ). drop n (drop place file)) nine ∙ drop-drop 9 place file),
      )

-- a length and its payload, with a gate after it
pub found_record : (file : List ℕ) (place len : ℕ) → drop place file ≡ 1 ∷ (length_bytes len ++ drop (place + 9) file) → place + 9 + len < length file →
    IsFoundAt file place (founds.Record len)
found_record file place len is within =
    let tail = drop (place + 9) file in
    let size = length-drop (place + 9) file in
    let cut = drop_more tail len 0 (omega (arith, size, within)) in (
      get_or tail len 0,
      drop (len + 1) tail,
      is ∙ ap (λ m. 1 ∷ (length_bytes len ++ m)) (sym (take-append-drop len tail) ∙ ap (λ m. take len tail ++ m) cut),
      omega (arith, length-take len tail, size, within),
    )

pub found_long : (file : List ℕ) (place len : ℕ) → drop place file ≡ 1 ∷ (length_bytes len ++ drop (place + 9) file) → len < 2 ^ 64 → length file ≤ place + 9 + len →
    IsFoundAt file place founds.Damaged
found_long file place len is fits past =
    (length_bytes len ++ drop (place + 9) file, is, long_none len (drop (place + 9) file) fits (omega (arith, length-drop (place + 9) file, past)))

-- what becomes of a length
pub payload_found : (file : List ℕ) (place len : ℕ) (result : Found) → drop place file ≡ 1 ∷ (length_bytes len ++ drop (place + 9) file) → len < 2 ^ 64 →
    PayloadIs (length file) place len result → IsFoundAt file place result
payload_found file place len (founds.Record n) is fits said =
    subst (λ (m : ℕ). IsFoundAt file place (founds.Record m)) (sym said.0) (found_record file place len is said.1)
payload_found file place len founds.Closed is fits said = absurd said
payload_found file place len founds.Damaged is fits said = found_long file place len is fits said
payload_found file place len founds.Failed is fits said = tt
payload_found file place len founds.NoMemory is fits said = tt

-- a window that a read has filled
pub read_window : (first file : List ℕ) (old new : List DiskCall) (at : ℕ) (bytes : List ℕ) (done : Unit {0}) → AreAnswers first new → file_of first old ≡ Some file →
    new ≡ old ++ Read at bytes (Ok done) ∷ [] → bytes ≡ take (length bytes) (drop at file)
read_window first file old new at bytes done answers known is =
    answer_one first old [] (Read at bytes (Ok done)) (Some file) known (subst (λ cs. AreAnswers first cs) is answers)

-- what a slice of a whole vector leaves in it
pub filled : (n : ℕ) (into items : List ℕ) → length into ≡ length items → n ≡ length items → take n (into ++ drop (length into) items) ≡ into
filled n into items same whole =
    ap (λ m. take n (into ++ m)) (drop_all (length into) items (omega (arith, same))) ∙ ap (λ m. take n m) (append-nil into)
    ∙ take_all n into (omega (arith, same, whole))

pub empty_window : (file : List ℕ) (w : Window) → w.bytes.items ≡ [] → IsWindowOf file w
empty_window file w none = none ∙ ap (λ bytes. take (length bytes) (drop w.at file)) (sym none)

pub Counts-none : {E : Type 0} (n : ℕ) → Counts {T = Unit {0}} {E = E} n n (Ok tt)
Counts-none n = record { later = omega arith; rose = tt; same = refl }

pub Counts-then : (a b d : ℕ) (result : Result (Unit {0}) Failed) → Counts {T = Unit {0}} {E = Failed} a b (Ok tt) → Counts b d result → Counts a d result
Counts-then a b d (Ok done) first second = record { later = omega (arith, first.later, second.later); rose = tt; same = second.same ∙ first.same }
Counts-then a b d (Err fault) first second =
    record { later = omega (arith, first.later, second.later); rose = subst (λ (n : ℕ). Rose n d) first.same second.rose; same = tt }
