-- Plain bytes, several at a time: `stops_are` reads the mask of one load. They are written and read unchanged: `plain_written`, `plain_passes`.
use Rattle.std.proofs.Common.{◌≡◌, ℕ, zero, suc, ◌+◌, ◌-◌, ◌%◌, ◌^◌, ◌<◌, ◌≤◌, ltb, eqb, nat_lt, ◌==◌, Bool, true, false, not, ◌&&◌, cond, ◌⊎◌, inl, inr, Ok, Err, List, [], ◌∷◌, ◌++◌}
use Rattle.std.proofs.Common.{map, flat_map, length, take, drop, get_or, replicate, refl, sym, ap, ap₂, ◌∙◌, subst, arith, append_assoc, zero-add, ne_eqb, lit<, w8, Fits}
use Rattle.std.proofs.lemmas.Bool.{agree_below, agree_below_at, not-false, cases_lt}
use Rattle.std.proofs.lemmas.Bool.Decides.{nat_tests}
use Rattle.std.proofs.lemmas.List.{append-nil, length-append, length-map, length-take, take-take}
use Rattle.std.proofs.lemmas.Simd.{map-map, mask_l-mod, zip2_splat, zip2_splat_left, zip2_of_maps, length-chunk, none_from_empty_mask, trailing_mask_l, run_in_chunk_le, run_in_chunk_fails}
use Rattle.std.proofs.Math.Seq.{take-append-add}
use Rattle.std.proofs.Math.ListN.{drop_of_length-le}
use Rattle.std.specs.List.{prefix_len}
use lib.Bits.{bit_or}
use lib.Count.{count_trailing_zeros}
use lib.Lanes.{chunk, zip2, mask_l, top, Each1}
use Rattle.json_text.specs.Compact.{escape}
use Rattle.json_text.specs.Reading.{between, goes_on, string_step, is_within}
use Rattle.json_text.specs.Scan.{scan_string, string_on, Passes}
use Rattle.json_text.specs.Plain.{is_plain, PlainBetween}
use Rattle.json_text.proofs.StringScan.{at_mark}

-- a lane of each comparison, and of all of them
abbrev pub same_as : ℕ → ℕ → ℕ
same_as a b = cond (eqb a b) 255 0

abbrev pub below : ℕ → ℕ → ℕ
below a b = cond (ltb a b) 255 0

abbrev stop_lane : ℕ → ℕ → ℕ
stop_lane most b = bit_or (bit_or (below b 32) (below most b)) (bit_or (same_as b 34) (same_as b 92))

abbrev stops_at : ℕ → ℕ → Bool
stops_at most b = not (is_plain most b)

each_byte : (most : ℕ) → (most ≡ 127) ⊎ (most ≡ 255) → agree_below (λ b. top 7 (stop_lane most b)) (stops_at most) 256 ≡ true
each_byte most (inl e) = subst (λ m. agree_below (λ b. top 7 (stop_lane m b)) (stops_at m) 256 ≡ true) (sym e) refl
each_byte most (inr e) = subst (λ m. agree_below (λ b. top 7 (stop_lane m b)) (stops_at m) 256 ≡ true) (sym e) refl

each_lane : (f g : ℕ → Bool) → agree_below f g 256 ≡ true → (v : List ℕ) → Each1 (Fits w8) v → map f v ≡ map g v
each_lane f g all [] fits = refl
each_lane f g all (x ∷ xs) fits = ap₂ (λ a b. a ∷ b) (agree_below_at f g 256 x all fits.0.fits) (each_lane f g all xs fits.1)

pub stops_are : (most n : ℕ) (v z : List ℕ) → (most ≡ 127) ⊎ (most ≡ 255) → length v ≡ n → n ≤ 64 → Each1 (Fits w8) v
    → z ≡ map (stop_lane most) v → mask_l (map (top 7) z) % 2 ^ 64 ≡ mask_l (map (stops_at most) v)
stops_are most n v z which long few fits e =
    ap (λ l. mask_l l % 2 ^ 64) (ap (map (top 7)) e ∙ map-map (top 7) (stop_lane most) v
    ∙ each_lane (λ b. top 7 (stop_lane most b)) (stops_at most) (each_byte most which) v fits)
    ∙ mask_l-mod (map (stops_at most) v) 64 (omega (arith, length-map v (stops_at most), long))

-- the lanes of the three comparisons together
pub lanes_are : (most n : ℕ) (v : List ℕ) → length v ≡ n
    → zip2 bit_or (zip2 bit_or (zip2 below v (replicate n 32)) (zip2 below (replicate n most) v)) (zip2 bit_or (zip2 same_as v (replicate n 34)) (zip2 same_as v (replicate n 92)))
    ≡ map (stop_lane most) v
lanes_are most n v long =
    zip2_of_maps bit_or _ _ v
    (zip2_of_maps bit_or _ _ v (zip2_splat below v n 32 long) (zip2_splat_left below most n v long))
    (zip2_of_maps bit_or _ _ v (zip2_splat same_as v n 34 long) (zip2_splat same_as v n 92 long))

-- no bit is set: each byte is plain
pub none_stops : (most n at : ℕ) (bytes : List ℕ) → at + n ≤ length bytes → mask_l (map (stops_at most) (chunk at n bytes)) ≡ 0 → PlainBetween most bytes at (at + n)
none_stops most n at bytes room none k from to = not-false _ (none_from_empty_mask (stops_at most) bytes at n 0 room none k from to)

-- a bit is set: the bytes before the lowest are plain
module _ (most n at : ℕ) (bytes : List ℕ) (room : at + n ≤ length bytes) (few : n ≤ 64) (some : 0 < mask_l (map (stops_at most) (chunk at n bytes))) where
  abbrev lowest : ℕ
  lowest = count_trailing_zeros 64 (mask_l (map (stops_at most) (chunk at n bytes)))

  counted : lowest ≡ prefix_len (λ b. not (stops_at most b)) (chunk at n bytes)
  counted = trailing_mask_l (stops_at most) 64 (chunk at n bytes) (omega (arith, length-chunk at n bytes room)) some

  pub some_stop : (lowest ≤ n) × PlainBetween most bytes at (at + lowest)
  some_stop = (
    run_in_chunk_le (stops_at most) bytes at n lowest 0 room counted,
    λ k from to. not-false _ (run_in_chunk_fails (stops_at most) bytes at n lowest 0 room counted k from to),
  )

pub plain_further : (most : ℕ) (bytes : List ℕ) (at n : ℕ) → PlainBetween most bytes 0 at → PlainBetween most bytes at (at + n) → PlainBetween most bytes 0 (at + n)
plain_further most bytes at n front back k from to = elim (cases_lt k at) [ inl early ↦ front k from early | inr late ↦ back k late to ]

pub plain_next : (most : ℕ) (bytes : List ℕ) (at : ℕ) → PlainBetween most bytes 0 at → is_plain most (get_or bytes at 0) ≡ true → PlainBetween most bytes 0 (at + 1)
plain_next most bytes at front next = plain_further most bytes at 1 front
    (λ k from to. let e : at ≡ k = omega arith in subst (λ j. is_plain most (get_or bytes j 0) ≡ true) e next)

-- what a plain byte is
parts : (a b c : Bool) → (a && (not b && not c)) ≡ true → (a ≡ true) × (b ≡ false) × (c ≡ false)
parts true false false e = (refl, refl, refl)
parts true false true e = cc
parts true true c e = cc
parts false b c e = cc

-- plain bytes are written unchanged
at_least : (b : ℕ) → is_within 32 255 b ≡ true → 32 ≤ b
at_least b e = grind (arith, nat_tests)

not_below : (b : ℕ) → 32 ≤ b → nat_lt b 32 ≡ false
not_below b h = grind (arith, nat_tests)

other_than : (b n : ℕ) → 32 ≤ b → n < 32 → (b == n) ≡ false
other_than b n h i = ne_eqb b n (λ (e : b ≡ n). omega arith)

plain_byte : (b : ℕ) → is_plain 255 b ≡ true → escape b ≡ b ∷ []
plain_byte b e =
    let (a, m, s) = parts (is_within 32 255 b) (b == 34) (b == 92) e in
    let h = at_least b a in
    rw (m, s, other_than b 8 h (lit< tt), other_than b 12 h (lit< tt), other_than b 10 h (lit< tt), other_than b 13 h (lit< tt), other_than b 9 h (lit< tt), not_below b h) refl

pub plain_written : (bytes : List ℕ) (n : ℕ) → PlainBetween 255 bytes 0 n → n ≤ length bytes → flat_map escape (take n bytes) ≡ take n bytes
plain_written bytes zero h i = refl
plain_written [] (suc n) h i = absurd (omega arith)
plain_written (b ∷ bs) (suc n) h i = ap₂ (λ x y. x ++ y) (plain_byte b (h 0 (omega arith) (omega arith)))
    (plain_written bs n (λ k from to. h (suc k) (omega arith) (omega arith)) (omega arith))

-- and read unchanged
plain_step : (text : List ℕ) (b : ℕ) → is_plain 127 b ≡ true → string_step between text b ≡ goes_on between (text ++ b ∷ [])
plain_step text b e = let (a, m, s) = parts (is_within 32 127 b) (b == 34) (b == 92) e in rw (m, s, a) refl

plain_read : (bytes text : List ℕ) (n base : ℕ) → PlainBetween 127 bytes 0 n → n ≤ length bytes
    → scan_string between text base bytes ≡ scan_string between (text ++ take n bytes) (base + n) (drop n bytes)
unfolding scan_string
plain_read bytes text zero base h i = ap₂ (λ t k. scan_string between t k bytes) (sym (append-nil text)) (omega arith)
plain_read [] text (suc n) base h i = absurd (omega arith)
plain_read (b ∷ bs) text (suc n) base h i =
    ap (λ s. string_on s text base (λ p t. scan_string p t (base + 1) bs)) (plain_step text b (h 0 (omega arith) (omega arith)))
    ∙ plain_read bs (text ++ b ∷ []) n (base + 1) (λ k from to. h (suc k) (omega arith) (omega arith)) (omega arith)
    ∙ ap₂ (λ t k. scan_string between t k (drop n bs)) (append_assoc text (b ∷ []) (take n bs)) (omega arith)

pub plain_passes : (bytes text : List ℕ) (n : ℕ) → PlainBetween 127 bytes 0 n → n ≤ length bytes → Passes between text bytes between (text ++ take n bytes) n
plain_passes bytes text n h i = (i, λ base. plain_read bytes text n base h i)

-- a string that begins with plain bytes; that has nothing after them; that ends after them
pub plain_front : (bytes : List ℕ) (n : ℕ) → PlainBetween 127 bytes 0 n → n ≤ length bytes
    → scan_string between [] 0 bytes ≡ scan_string between (take n bytes) n (drop n bytes)
plain_front bytes n h i = plain_read bytes [] n 0 h i ∙ ap (λ k. scan_string between (take n bytes) k (drop n bytes)) (zero-add n)

pub plain_whole : (bytes : List ℕ) (n : ℕ) → PlainBetween 127 bytes 0 n → n ≡ length bytes → scan_string between [] 0 bytes ≡ Err n
unfolding scan_string
plain_whole bytes n h e = plain_front bytes n h (omega arith) ∙ ap (scan_string between (take n bytes) n) (drop_of_length-le bytes (omega arith))

pub plain_ended : (bytes : List ℕ) (n : ℕ) → PlainBetween 127 bytes 0 n → n < length bytes → get_or bytes n 0 ≡ 34
    → scan_string between [] 0 bytes ≡ Ok (take n bytes, n + 1)
plain_ended bytes n h i mark = plain_front bytes n h (omega arith) ∙ at_mark bytes (take n bytes) n i mark

-- 16 bytes are put, and those after the first ones are dropped
pub front_put : (old bytes put new : List ℕ) (len total : ℕ) → len ≤ 16 → 16 ≤ length bytes → put ≡ old ++ take 16 bytes → total ≡ length put
    → new ≡ take (total - (16 - len)) put → new ≡ old ++ take len bytes
front_put old bytes put new len total few room e l cut =
    let end : total - (16 - len) ≡ length old + len = omega (arith, l, ap length e, length-append old (take 16 bytes), length-take 16 bytes) in
    cut ∙ ap₂ take end e ∙ take-append-add old (take 16 bytes) len ∙ ap (λ t. old ++ t) (take-take len 16 bytes few)
