-- What `scan_string` does, a byte or a part at a time; its text is UTF-8: `scan_utf8`. A code unit of four hexadecimal digits:
-- `place_goes`, `place_no_digit`, `place_no_fit`, `place_empty`.
use Rattle.std.proofs.Common.{◌≡◌, ℕ, zero, suc, ◌+◌, ◌-◌, ◌^◌, ◌<◌, ◌≤◌, Bool, true, false, List, [], ◌∷◌, ◌++◌, length, take, drop, get_or, cond, ◌≢◌, Some}
use Rattle.std.proofs.Common.{None, Result, Ok, Err, refl, sym, ap, ◌∙◌, subst, arith, append_assoc, one-add, IsUtf8, length-drop, length-take, ne_eqb}
use Rattle.std.proofs.{lemmas.List.drop-drop, lemmas.List.drop_more, lemmas.List.take_all}
use Rattle.std.proofs.{lemmas.Bool.cond-true, lemmas.Bool.Decides.nat_tests, Math.ListN.drop_of_length-le}
use Rattle.std.{specs.Result.result_unwrap_or, proofs.Common.encode_utf8, proofs.Common.◌*◌, proofs.Common.Option}
use Rattle.json_text.specs.{declared.fault.TokenFault.TokenFault, declared.fault.TokenFault.TheVariants.Stop, declared.fault.TokenFault.TheVariants.NoMemory}
use Rattle.json_text.specs.Characters.{hex_digit_of}
use Rattle.json_text.specs.Reading.{StringPart, between, hex, high, tail, StringStep, goes_on, ends, stops, string_step, is_within, unescaped_step}
use Rattle.json_text.specs.Reading.{digit_fits, unit_step, unit_after, hex_step}
use Rattle.json_text.specs.Scan.{scan_string, string_on, Passes, Scanned, Taken, HasRoom, after_of, IsUnit, unit_left, IsUnitSoFar, GoesToUnit, StopsAt}
use Rattle.json_text.proofs.Following.{Characters, StringOn}
use Rattle.json_text.proofs.CharacterReads.{characters_spelled, characters_utf8, hex_below, so_far_more}

-- what a slice pattern leaves after n bytes
rest_is : (n : ℕ) (xs : List ℕ) → take (length xs - n) (drop n xs) ≡ drop n xs
rest_is n xs = take_all (length xs - n) (drop n xs) (omega (arith, length-drop n xs))

-- bytes that are passed over, and what is after them
pub scanned_after : (part mid other : StringPart) (text t new xs rest : List ℕ) (n : ℕ) (r whole : Result ℕ TokenFault) → whole ≡ after_of n r
    → rest ≡ take (length xs - n) (drop n xs) → Passes part text xs mid t n → Scanned mid t rest other new r → Scanned part text xs other new whole
scanned_after part mid other text t new xs rest n r whole e f p s =
    subst (Scanned part text xs other new) (sym e) (on r (subst (λ l. Scanned mid t l other new r) (f ∙ rest_is n xs) s))
  where
    on : (r : Result ℕ TokenFault) → Scanned mid t (drop n xs) other new r → Scanned part text xs other new (after_of n r)
    on (Ok m) s = let same = λ (base : ℕ). p.1 base ∙ s.1 (base + n) ∙ ap (scan_string other new ((base + n) + m)) (drop-drop m n xs)
        ∙ ap (λ k. scan_string other new k (drop (n + m) xs)) (omega arith) in (omega (arith, p.0, s.0, length-drop n xs), same)
    on (Err (Stop m)) s = (omega (arith, p.0, s.0, length-drop n xs), λ base. p.1 base ∙ s.1 (base + n) ∙ ap Err (omega arith))
    on (Err NoMemory) s = tt

-- what is scanned lies within the bytes
pub has_room : (part : StringPart) (xs : List ℕ) (r : Result ℕ TokenFault) → 1 ≤ length xs → length xs < 2 ^ 64
    → Taken part (take (length xs - 1) (drop 1 xs)) r → HasRoom 1 r
has_room part xs (Ok n) h k s = omega (arith, (s []).0, length-take (length xs - 1) (drop 1 xs), length-drop 1 xs)
has_room part xs (Err (Stop n)) h k s = omega (arith, (s []).0, length-take (length xs - 1) (drop 1 xs), length-drop 1 xs)
has_room part xs (Err NoMemory) h k s = tt

-- a byte in the range, with more to come, and a first byte that is no quotation mark and no backslash
pub tail_goes : (low up more : ℕ) (text : List ℕ) (b : ℕ) → low ≤ b → b ≤ up → more ≢ 0
    → string_step (tail low (up - low) more) text b ≡ goes_on (tail 128 63 (more - 1)) (text ++ b ∷ [])
tail_goes low up zero text b h i n = absurd (n refl)
tail_goes low up (suc more) text b h i n = cond-true _ _ _ (fits low up b h i) ∙ ap (λ m. goes_on (tail 128 63 m) (text ++ b ∷ [])) (omega arith)
  where
    fits : (low up b : ℕ) → low ≤ b → b ≤ up → is_within low (low + (up - low)) b ≡ true
    fits low up b h i = grind (arith, nat_tests)

pub first_goes : (text : List ℕ) (b : ℕ) (s : StringStep) → b ≢ 34 → b ≢ 92 → unescaped_step text b ≡ s → string_step between text b ≡ s
first_goes text b s h i e = rw (ne_eqb b 34 h, ne_eqb b 92 i) e

-- one byte that is not escaped
pub taken_after : (part mid : StringPart) (xs rest : List ℕ) (r whole : Result ℕ TokenFault) → 1 ≤ length xs
    → ((text : List ℕ) → string_step part text (get_or xs 0 0) ≡ goes_on mid (text ++ get_or xs 0 0 ∷ [])) → whole ≡ after_of 1 r
    → rest ≡ take (length xs - 1) (drop 1 xs) → Taken mid rest r → Taken part xs whole
unfolding scan_string
taken_after part mid [] rest r whole h step e f s text = absurd (omega (arith, h))
taken_after part mid (b ∷ bs) rest r whole h step e f s text =
    scanned_after part mid between text (text ++ b ∷ []) (text ++ take (result_unwrap_or whole 0) (b ∷ bs)) (b ∷ bs) rest 1 r whole e f
    (h, λ base. one base) (on r e (s (text ++ b ∷ [])))
  where
    one : (base : ℕ) → scan_string part text base (b ∷ bs) ≡ scan_string mid (text ++ b ∷ []) (base + 1) bs
    one base = ap (λ s. string_on s text base (λ q u. scan_string q u (base + 1) bs)) (step text)

    on : (r : Result ℕ TokenFault) → whole ≡ after_of 1 r → Scanned mid (text ++ b ∷ []) rest between ((text ++ b ∷ []) ++ take (result_unwrap_or r 0) rest) r
        → Scanned mid (text ++ b ∷ []) rest between (text ++ take (result_unwrap_or whole 0) (b ∷ bs)) r
    on (Ok n) e s = subst (λ t. Scanned mid (text ++ b ∷ []) rest between t (Ok n)) (append_assoc text (b ∷ []) (take n rest)
        ∙ ap (λ l. text ++ b ∷ take n l) (f ∙ rest_is 1 (b ∷ bs)) ∙ ap (λ k. text ++ take k (b ∷ bs)) (sym (one-add n))
        ∙ ap (λ w. text ++ take (result_unwrap_or w 0) (b ∷ bs)) (sym e)) s
    on (Err (Stop n)) e s = s
    on (Err NoMemory) e s = s

-- a unit that is a high surrogate
pub high_unit : (text digits : List ℕ) (unit : ℕ) → IsUnit None digits (Ok unit) → is_within 0xD800 0xDBFF unit ≡ true
    → Passes (hex None 3 0) text digits (high unit) text 4
high_unit text digits unit h e = let same = λ (base : ℕ). h.2 text base
    ∙ ap (λ s. string_on s text (base + 4) (λ p t. scan_string p t (base + 4) (drop 4 digits))) (cond-true _ _ _ e) in (h.0, same)

-- where it stops does not depend on the text that was to be
pub stopped : (part : StringPart) (text xs : List ℕ) (other : StringPart) (new new' : List ℕ) (e : TokenFault) → Scanned part text xs other new (Err e)
    → Scanned part text xs other new' (Err e)
stopped part text xs other new new' (Stop n) h = h
stopped part text xs other new new' NoMemory h = tt

-- what a string holds is UTF-8
abbrev held : Result (List ℕ × ℕ) ℕ → List ℕ
held (Ok x) = x.0
held (Err n) = []

scan_on : (t text bs : List ℕ) (m n : ℕ) (s : StringStep)
    → ((p : StringPart) (u : List ℕ) → scan_string p u (m + 1) bs ≡ Ok (t, n) → Characters p u (λ u _. u ≡ t) bs)
    → string_on s text m (λ p u. scan_string p u (m + 1) bs) ≡ Ok (t, n) → StringOn s (λ p u. Characters p u (λ u _. u ≡ t) bs) (text ≡ t)
scan_on t text bs m n (goes_on p u) f e = f p u e
scan_on t text bs m n ends f e = ap held e
scan_on t text bs m n stops f e = cc

scan_characters : (bytes : List ℕ) (part : StringPart) (text t : List ℕ) (m n : ℕ) → scan_string part text m bytes ≡ Ok (t, n)
    → Characters part text (λ u _. u ≡ t) bytes
unfolding scan_string
scan_characters [] part text t m n e = cc
scan_characters (b ∷ bs) part text t m n e = scan_on t text bs m n (string_step part text b) (λ p u g. scan_characters bs p u t (m + 1) n g) e

scan_utf8 : (bytes t : List ℕ) (n : ℕ) → scan_string between [] 0 bytes ≡ Ok (t, n) → IsUtf8 t
scan_utf8 bytes t n e = let (inside, text, back, is, spelled, same) = characters_spelled (λ u _. u ≡ t) bytes (scan_characters bytes between [] t 0 n e) in
    subst IsUtf8 same (characters_utf8 spelled)

-- a whole unit neither ends a string nor stops it
from_anywhere : (text : List ℕ) (lead : Option ℕ) (unit n m : ℕ) (next : StringPart → List ℕ → Result (List ℕ × ℕ) ℕ)
    → string_on (unit_step text lead unit) text n next ≡ string_on (unit_step text lead unit) text m next
from_anywhere text (Some l) unit n m next = refl
from_anywhere text None unit n m next =
    let high_on : StringStep = goes_on (high unit) text in let alone : StringStep = goes_on between (text ++ encode_utf8 unit) in
    elim (is_within 0xD800 0xDBFF unit) as
    (λ v. string_on (cond v high_on alone) text n next ≡ string_on (cond v high_on alone) text m next) [ true ↦ refl | false ↦ refl ]

-- the quotation mark
pub at_mark : (bytes text : List ℕ) (at : ℕ) → at < length bytes → get_or bytes at 0 ≡ 34 → scan_string between text at (drop at bytes) ≡ Ok (text, at + 1)
unfolding scan_string
at_mark bytes text at h e = rw (drop_more bytes at 0 h, e) refl

pub mark_utf8 : (bytes text : List ℕ) (at : ℕ) → at < length bytes → get_or bytes at 0 ≡ 34
    → scan_string between [] 0 bytes ≡ scan_string between text at (drop at bytes) → IsUtf8 text
mark_utf8 bytes text at h e same = scan_utf8 bytes text (at + 1) (same ∙ at_mark bytes text at h e)

-- the digit at a place of a code unit
module _ (lead : Option ℕ) (digits : List ℕ) (place unit : ℕ) (h : place < 4) where
  -- what a step does there
  abbrev Does : List ℕ → ℕ → StringStep → Result (List ℕ × ℕ) ℕ
  Does text base s = string_on s text base (λ p t. scan_string p t (base + 1) (drop (place + 1) digits))

  at_place : (text : List ℕ) (base : ℕ) → place < length digits → unit_left lead (4 - place) unit text base (drop place digits)
      ≡ Does text base (hex_step text lead (4 - (place + 1)) unit (hex_digit_of (get_or digits place 0)))
  unfolding scan_string
  at_place text base i = ap (λ n. unit_left lead n unit text base (drop place digits)) (let k : 4 - place ≡ suc (4 - (place + 1)) = omega arith in k)
      ∙ ap (scan_string (hex lead (4 - (place + 1)) unit) text base) (drop_more digits place 0 i)

  -- no digit is there
  pub place_empty : length digits ≤ place → StopsAt lead digits place unit
  unfolding scan_string
  place_empty i text base = ap (λ n. unit_left lead n unit text base (drop place digits)) (let k : 4 - place ≡ suc (4 - (place + 1)) = omega arith in k)
      ∙ ap (scan_string (hex lead (4 - (place + 1)) unit) text base) (drop_of_length-le digits i)

  pub place_no_digit : place < length digits → hex_digit_of (get_or digits place 0) ≡ None → StopsAt lead digits place unit
  place_no_digit i e text base = at_place text base i ∙ ap (λ o. Does text base (hex_step text lead (4 - (place + 1)) unit o)) e

  -- a digit that fits or not
  module _ (d : ℕ) (i : place < length digits) (e : hex_digit_of (get_or digits place 0) ≡ Some d) where
    by_fit : (text : List ℕ) (base : ℕ) (v : Bool) → digit_fits lead (4 - (place + 1)) unit d ≡ v
        → unit_left lead (4 - place) unit text base (drop place digits) ≡ Does text base (cond v (unit_after text lead (4 - (place + 1)) (16 * unit + d)) stops)
    by_fit text base v f = at_place text base i ∙ ap (λ o. Does text base (hex_step text lead (4 - (place + 1)) unit o)) e
        ∙ ap (λ v. Does text base (cond v (unit_after text lead (4 - (place + 1)) (16 * unit + d)) stops)) f

    pub place_no_fit : digit_fits lead (4 - (place + 1)) unit d ≡ false → StopsAt lead digits place unit
    place_no_fit f text base = by_fit text base false f

    whole : (text : List ℕ) (base more u : ℕ) → Does text base (unit_after text lead more u) ≡ unit_left lead more u text (base + 1) (drop (place + 1) digits)
    whole text base zero u = from_anywhere text lead u base (base + 1) (λ p t. scan_string p t (base + 1) (drop (place + 1) digits))
    whole text base (suc more) u = refl

    pub place_goes : IsUnitSoFar lead (4 - place) unit → digit_fits lead (4 - (place + 1)) unit d ≡ true → GoesToUnit lead digits place unit (16 * unit + d)
    place_goes s f = let so = so_far_more lead (4 - (place + 1)) unit d (omega arith)
        (subst (λ n. IsUnitSoFar lead n unit) (let k : 4 - place ≡ suc (4 - (place + 1)) = omega arith in k) s) (hex_below (get_or digits place 0) d e) f in
        (i, so, λ text base. by_fit text base true f ∙ whole text base (4 - (place + 1)) (16 * unit + d))
