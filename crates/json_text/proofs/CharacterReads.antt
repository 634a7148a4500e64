-- The characters of a string, read in both directions: `characters_spelled` takes one character after another from the front of
-- what may still come, and `characters_from` puts them back. What they represent is UTF-8: `characters_utf8`.
use Rattle.std.proofs.Common.{◌≡◌, ◌≢◌, ℕ, zero, suc, ◌+◌, ◌*◌, ◌/◌, ◌%◌, ◌<◌, ◌≤◌, Bool, true, false, ◌==◌, cond, List, [], ◌∷◌, ◌++◌, length, Option}
use Rattle.std.proofs.Common.{Some, None, ◌⊎◌, inl, inr, ⊎_elim, refl, sym, ap, ◌∙◌, subst, arith, append_assoc, append-nil, eqb-true, IsUtf8, encode_utf8}
use Rattle.std.proofs.{Math.Utf8.scalar_cases, lemmas.Str.IsUtf8-append, lemmas.Str.IsUtf8-encode, lemmas.Str.IsUtf8-nil, lemmas.Bool.Decides.nat_tests}
use Rattle.std.proofs.lemmas.Bool.{cond_both, cond-true, cond-false, eqb-false, cases_eq, cases_lt}
use Rattle.std.{proofs.Common.length-append, specs.Char.IsScalar}
use Rattle.json_text.specs.Characters.{SpellsCharacter, unescaped, escaped, unit, pair, SpellsCharacters, none, more, escape_of, hex_digit_of, IsHex}
use Rattle.json_text.specs.Characters.{IsHighSurrogate, IsLowSurrogate, pair_of}
use Rattle.json_text.specs.Reading.{StringPart, between, backslash, hex, high, high_backslash, tail, StringStep, goes_on, stops, string_step, unescaped_step}
use Rattle.json_text.specs.Reading.{is_within, tail_after, escape_step, digit_fits, unit_step, unit_after, hex_step}
use Rattle.json_text.{specs.Scan.IsUnitSoFar, proofs.Following.Characters, proofs.Following.StringOn}
use Rattle.json_text.proofs.Encoded.{IsLong, long_2, long_3, long_4, encode_1, encode_2, encode_3, encode_4, low_is_scalar, high_is_scalar}

-- n more bytes make the bytes a character
abbrev Closes : ℕ → List ℕ → Type 0
Closes zero bytes = IsLong bytes
Closes (suc n) bytes = (b : ℕ) → 128 ≤ b → b ≤ 191 → Closes n (bytes ++ b ∷ [])

-- a byte of the range does, and n bytes after it
abbrev IsFront : ℕ → ℕ → ℕ → List ℕ → Type 0
IsFront low width n front = (b : ℕ) → low ≤ b → b ≤ low + width → Closes n (front ++ b ∷ [])

within_from : (low up b : ℕ) → is_within low up b ≡ true → low ≤ b
within_from low up b t = grind (arith, nat_tests)

within_to : (low up b : ℕ) → is_within low up b ≡ true → b ≤ up
within_to low up b t = grind (arith, nat_tests)

apart : (a b : ℕ) → (a ≡ b → ⊥) → (a < b) ⊎ (b < a)
apart a b h = grind arith

-- what an unescaped byte does
pub unescaped_by : (P : StringStep → Type 0) (text : List ℕ) (b : ℕ) → (32 ≤ b → b ≤ 127 → P (goes_on between (text ++ b ∷ [])))
    → ((low width n : ℕ) → IsFront low width n (b ∷ []) → P (goes_on (tail low width n) (text ++ b ∷ []))) → P stops → P (unescaped_step text b)
unescaped_by P text b f g h = cond_both (is_within 32 127 b) _ _ P (λ t. f (within_from 32 127 b t) (within_to 32 127 b t)) (λ _.
    cond_both (is_within 194 223 b) _ _ P (λ t. g 128 63 0 (λ x i j. long_2 b x (within_from 194 223 b t) (within_to 194 223 b t) i j)) (λ _.
    cond_both (b == 224) _ _ P (λ t. let e = eqb-true b 224 t in g 160 31 1 (λ x i j y k l.
    long_3 b x y (omega arith) (omega arith) (omega arith) j k l (inl i) (inr (inl (omega arith))))) (λ _.
    cond_both (b == 237) _ _ P (λ t. let e = eqb-true b 237 t in g 128 31 1 (λ x i j y k l.
    long_3 b x y (omega arith) (omega arith) i (omega arith) k l (inr (omega arith)) (inl (omega arith)))) (λ n.
    cond_both (is_within 225 239 b) _ _ P (λ t. let v = within_from 225 239 b t in let w = within_to 225 239 b t in g 128 63 1 (λ x i j y k l.
    long_3 b x y (omega arith) w i j k l (inr v) (inr (apart b 237 (eqb-false b 237 n))))) (λ _.
    cond_both (b == 240) _ _ P (λ t. let e = eqb-true b 240 t in g 144 47 2 (λ x i j y k l z m n.
    long_4 b x y z (omega arith) (omega arith) (omega arith) j k l m n (inl i) (inr (omega arith)))) (λ _.
    cond_both (is_within 241 243 b) _ _ P (λ t. let v = within_from 241 243 b t in let w = within_to 241 243 b t in g 128 63 2 (λ x i j y k l z m n.
    long_4 b x y z (omega arith) (omega arith) i j k l m n (inr v) (inr (omega arith)))) (λ _.
    cond_both (b == 244) _ _ P (λ t. let e = eqb-true b 244 t in g 128 15 2 (λ x i j y k l z m n.
    long_4 b x y z (omega arith) (omega arith) i (omega arith) k l m n (inr (omega arith)) (inl (omega arith)))) (λ _. h))))))))

-- a digit is less than 16
pub hex_below : (b d : ℕ) → hex_digit_of b ≡ Some d → d < 16
hex_below b d e = grind (arith, nat_tests)

-- what the tests on the first two digits say
alone_fits : (left n d : ℕ) → digit_fits None left n d ≡ true → left ≡ 2 → n ≡ 13 → d < 12
alone_fits left n d t e f = grind (arith, nat_tests)

low_fits_first : (lead left n d : ℕ) → digit_fits (Some lead) left n d ≡ true → left ≡ 3 → d ≡ 13
low_fits_first lead left n d t e = grind (arith, nat_tests)

low_fits_second : (lead left n d : ℕ) → digit_fits (Some lead) left n d ≡ true → left ≡ 2 → 12 ≤ d
low_fits_second lead left n d t e = grind (arith, nat_tests)

alone_second : (n d : ℕ) → n < 16 → d < 16 → (n ≡ 13 → d < 12) → (16 * n + d < 0xDC) ⊎ (0xE0 ≤ 16 * n + d)
alone_second n d h i f = grind arith

-- one digit more
pub so_far_more : (lead : Option ℕ) (left n d : ℕ) → left < 4 → IsUnitSoFar lead (suc left) n → d < 16 → digit_fits lead left n d ≡ true
    → IsUnitSoFar lead left (16 * n + d)
so_far_more None zero n d l (b, (h, inl i)) k f = (omega arith, inl (omega arith))
so_far_more None zero n d l (b, (h, inr i)) k f = (omega arith, inr (omega arith))
so_far_more None (suc zero) n d l (b, (h, inl i)) k f = (omega arith, (omega arith, inl (omega arith)))
so_far_more None (suc zero) n d l (b, (h, inr i)) k f = (omega arith, (omega arith, inr (omega arith)))
so_far_more None (suc (suc zero)) n d l (b, h) k f = (omega arith, (omega arith, alone_second n d h k (alone_fits 2 n d f refl)))
so_far_more None (suc (suc (suc zero))) n d l (b, h) k f = (omega arith, omega arith)
so_far_more None (suc (suc (suc (suc left)))) n d l h k f = absurd (omega arith)
so_far_more (Some lead) zero n d l (b, h) k f = (omega arith, (omega arith, omega arith))
so_far_more (Some lead) (suc zero) n d l (b, h) k f = (omega arith, (omega arith, omega arith))
so_far_more (Some lead) (suc (suc zero)) n d l (b, h) k f = let e = low_fits_second lead 2 n d f refl in (omega arith, (omega arith, omega (arith, e)))
so_far_more (Some lead) (suc (suc (suc zero))) n d l (b, h) k f = let e = low_fits_first lead 3 n d f refl in (omega arith, omega (arith, e))
so_far_more (Some lead) (suc (suc (suc (suc left)))) n d l h k f = absurd (omega arith)

long_character : (bytes : List ℕ) → IsLong bytes → SpellsCharacter bytes bytes
long_character bytes h = subst (λ x. SpellsCharacter x x) (sym h.3) (unescaped h.0 h.1 (omega arith) (λ e. omega arith) (λ e. omega arith))

pub short_character : (b : ℕ) → 32 ≤ b → b ≤ 127 → (b ≡ 34 → ⊥) → (b ≡ 92 → ⊥) → SpellsCharacter (b ∷ []) (b ∷ [])
short_character b l h q s = subst (λ x. SpellsCharacter x x) (encode_1 b (omega arith)) (unescaped b (low_is_scalar b (omega arith)) l q s)

unit_scalar : (u : ℕ) → IsUnitSoFar None zero u → is_within 0xD800 0xDBFF u ≡ false → IsScalar u
unit_scalar u (h, inl i) t = low_is_scalar u (grind (arith, nat_tests))
unit_scalar u (h, inr i) t = high_is_scalar u i (omega arith)

-- the choice between a step and none
cond_on : (v : Bool) (s : StringStep) (W : StringPart → List ℕ → Type 0) (E : Type 0) → StringOn (cond v s stops) W E → (v ≡ true) × StringOn s W E
cond_on true s W E h = (refl, h)
cond_on false s W E h = absurd h

inside : (low up b : ℕ) → low ≤ b → b ≤ up → is_within low up b ≡ true
inside low up b l u = grind (arith, nat_tests)

-- the first byte of an unescaped character
short : (text : List ℕ) (b : ℕ) → 32 ≤ b → b < 128 → b ≢ 34 → b ≢ 92 → string_step between text b ≡ goes_on between (text ++ b ∷ [])
short text b l u q s = grind (arith, nat_tests)

lead_3 : (text : List ℕ) (b : ℕ) → 225 ≤ b → b ≤ 239 → b ≢ 237 → string_step between text b ≡ goes_on (tail 128 63 1) (text ++ b ∷ [])
lead_3 text b l u n = grind (arith, nat_tests)

lead_4 : (text : List ℕ) (b : ℕ) → 241 ≤ b → b ≤ 243 → string_step between text b ≡ goes_on (tail 128 63 2) (text ++ b ∷ [])
lead_4 text b l u = grind (arith, nat_tests)

below : (c : ℕ) → (c < 55296) ⊎ ((57344 ≤ c) × (c < 1114112)) → c < 1114112
below c (inl h) = omega arith
below c (inr h) = h.1

-- the digits of a code unit fit
all_fit : (lead : Option ℕ) (u w x y z : ℕ) → IsUnitSoFar lead zero u → u ≡ 16 * (16 * (16 * w + x) + y) + z → w < 16 → x < 16 → y < 16 → z < 16
    → (digit_fits lead 3 0 w ≡ true) × (digit_fits lead 2 w x ≡ true) × (digit_fits lead 1 (16 * w + x) y ≡ true)
    × (digit_fits lead 0 (16 * (16 * w + x) + y) z ≡ true)
all_fit None u w x y z so e f g h i = (refl, second w x (λ o. first u w x y z so.1 e g h i o), refl, refl)
  where
    first : (u w x y z : ℕ) → (u < 0xDC00) ⊎ (0xE000 ≤ u) → u ≡ 16 * (16 * (16 * w + x) + y) + z → x < 16 → y < 16 → z < 16 → w ≡ 13 → x < 12
    first u w x y z (inl s) e g h i o = omega arith
    first u w x y z (inr s) e g h i o = omega arith

    second : (w x : ℕ) → (w ≡ 13 → x < 12) → digit_fits None 2 w x ≡ true
    second w x h = grind (arith, nat_tests)
all_fit (Some lead) u w x y z so e f g h i = (first w (omega (arith, so.1.0, so.1.1)), second x (omega (arith, so.1.0, so.1.1)), refl, refl)
  where
    first : (w : ℕ) → w ≡ 13 → digit_fits (Some lead) 3 0 w ≡ true
    first w h = grind (arith, nat_tests)

    second : (x : ℕ) → 12 ≤ x → digit_fits (Some lead) 2 w x ≡ true
    second x h = grind (arith, nat_tests)

hex_small : (digits : List ℕ) (u : ℕ) → IsHex digits u → u < 65536
hex_small digits u (a, b, c, d, w, x, y, z, is, e, f, g, h, sum) = omega (arith, sum, hex_below a w e, hex_below b x f, hex_below c y g, hex_below d z h)

off_high : (u : ℕ) → (u < 55296) ⊎ (57344 ≤ u) → is_within 0xD800 0xDBFF u ≡ false
off_high u (inl h) = grind (arith, nat_tests)
off_high u (inr h) = grind (arith, nat_tests)

scalar_unit : (u : ℕ) → u < 65536 → (u < 55296) ⊎ ((57344 ≤ u) × (u < 1114112)) → IsUnitSoFar None zero u × (is_within 0xD800 0xDBFF u ≡ false)
scalar_unit u s (inl h) = ((s, inl (omega (arith, h))), off_high u (inl h))
scalar_unit u s (inr h) = ((s, inr h.0), off_high u (inr h.0))

high_unit : (u : ℕ) → IsHighSurrogate u → IsUnitSoFar None zero u × (is_within 0xD800 0xDBFF u ≡ true)
high_unit u h = ((omega (arith, h.1), inl (omega (arith, h.1))), inside 0xD800 0xDBFF u h.0 h.1)

not_unit : (b c : ℕ) → escape_of b ≡ Some c → (b == 117) ≡ false
not_unit b c e = grind (arith, nat_tests)

module _ (K : List ℕ → List ℕ → Type 0) where
  -- what follows a step
  abbrev Then : StringStep → List ℕ → List ℕ → Type 0
  Then s text bs = StringOn s (λ p t. Characters p t K bs) (K text bs)

  -- a digit of a code unit, and four of them
  abbrev Digit : Option ℕ → ℕ → ℕ → List ℕ → List ℕ → Type 0
  Digit lead left n text bytes = (b d : ℕ) × (bs : List ℕ) × (bytes ≡ b ∷ bs) × (hex_digit_of b ≡ Some d) × (digit_fits lead left n d ≡ true)
      × Then (unit_after text lead left (16 * n + d)) text bs

  digit_by : (lead : Option ℕ) (left n : ℕ) (text : List ℕ) (b : ℕ) (bs : List ℕ) (o : Option ℕ) → hex_digit_of b ≡ o
      → Then (hex_step text lead left n o) text bs → Digit lead left n text (b ∷ bs)
  digit_by lead left n text b bs None e h = absurd h
  digit_by lead left n text b bs (Some d) e h = let (f, k) = cond_on (digit_fits lead left n d) _ _ _ h in (b, d, bs, refl, e, f, k)

  digit : (lead : Option ℕ) (left n : ℕ) (text bytes : List ℕ) → Characters (hex lead left n) text K bytes → Digit lead left n text bytes
  digit lead left n text [] h = absurd h
  digit lead left n text (b ∷ bs) h = digit_by lead left n text b bs (hex_digit_of b) refl h

  abbrev Unit4 : Option ℕ → List ℕ → List ℕ → Type 0
  Unit4 lead text bytes = (digits back : List ℕ) × (u : ℕ) × (bytes ≡ digits ++ back) × IsHex digits u × IsUnitSoFar lead zero u
      × Then (unit_step text lead u) text back

  four : (lead : Option ℕ) (text bytes : List ℕ) → IsUnitSoFar lead 4 0 → Characters (hex lead 3 0) text K bytes → Unit4 lead text bytes
  four lead text bytes start h = let (a, w, t_a, is_a, e_a, f_a, h_a) = digit lead 3 0 text bytes h in
      let (b, x, bs, is_b, e_b, f_b, h_b) = digit lead 2 (16 * 0 + w) text t_a h_a in
      let (c, y, cs, is_c, e_c, f_c, h_c) = digit lead 1 (16 * (16 * 0 + w) + x) text bs h_b in
      let (d, z, ds, is_d, e_d, f_d, h_d) = digit lead 0 (16 * (16 * (16 * 0 + w) + x) + y) text cs h_c in
      let one = so_far_more lead 3 0 w (omega arith) start (hex_below a w e_a) f_a in
      let two = so_far_more lead 2 (16 * 0 + w) x (omega arith) one (hex_below b x e_b) f_b in
      let three = so_far_more lead 1 (16 * (16 * 0 + w) + x) y (omega arith) two (hex_below c y e_c) f_c in
      let so = so_far_more lead zero (16 * (16 * (16 * 0 + w) + x) + y) z (omega arith) three (hex_below d z e_d) f_d in
      let is = is_a ∙ ap (λ t. a ∷ t) (is_b ∙ ap (λ t. b ∷ t) (is_c ∙ ap (λ t. c ∷ t) is_d)) in
      let hexed : IsHex (a ∷ b ∷ c ∷ d ∷ []) (16 * (16 * (16 * (16 * 0 + w) + x) + y) + z) = (a, b, c, d, w, x, y, z, refl, e_a, e_b, e_c, e_d, omega arith) in
      (a ∷ b ∷ c ∷ d ∷ [], ds, 16 * (16 * (16 * (16 * 0 + w) + x) + y) + z, is, hexed, so, h_d)

  -- one byte that has to come
  expected : (part p : StringPart) (text bytes : List ℕ) (c : ℕ) → ((b : ℕ) → string_step part text b ≡ cond (b == c) (goes_on p text) stops)
      → Characters part text K bytes → (bs : List ℕ) × (bytes ≡ c ∷ bs) × Characters p text K bs
  expected part p text [] c f h = absurd h
  expected part p text (b ∷ bs) c f h = let (e, k) = cond_on (b == c) (goes_on p text) _ _ (subst (λ s. Then s text bs) (f b) h) in
      (bs, ap (λ x. x ∷ bs) (eqb-true b c e), k)

  -- a character with this first byte, and the characters after it
  abbrev One : ℕ → List ℕ → List ℕ → Type 0
  One b text bs = (a x rest : List ℕ) × (bs ≡ a ++ rest) × SpellsCharacter (b ∷ a) x × Characters between (text ++ x) K rest

  -- after a backslash and a `u`
  unit_by : (text bytes digits back : List ℕ) (u : ℕ) → bytes ≡ 117 ∷ (digits ++ back) → IsHex digits u → IsUnitSoFar None zero u → (v : Bool)
      → is_within 0xD800 0xDBFF u ≡ v → Then (cond v (goes_on (high u) text) (goes_on between (text ++ encode_utf8 u))) text back → One 92 text bytes
  unit_by text bytes digits back u is hexed so false t h = (117 ∷ digits, encode_utf8 u, back, is, unit digits u hexed (unit_scalar u so t), h)
  unit_by text bytes digits back u is hexed so true t h = let (t_a, is_a, h_a) = expected (high u) (high_backslash u) text back 92 (λ b. refl) h in
      let (bs, is_b, h_b) = expected (high_backslash u) (hex (Some u) 3 0) text t_a 117 (λ b. refl) h_a in
      let (second, rest, low, is_l, hexed_l, so_l, k) = four (Some u) text bs (omega arith, refl) h_b in
      let all = is ∙ ap (λ t. 117 ∷ t) (ap (λ t. digits ++ t) (is_a ∙ ap (λ t. 92 ∷ t) (is_b ∙ ap (λ t. 117 ∷ t) is_l))
      ∙ sym (append_assoc digits (92 ∷ 117 ∷ second) rest)) in
      let spelled = pair digits second u low hexed hexed_l (within_from 0xD800 0xDBFF u t, within_to 0xD800 0xDBFF u t) (omega arith, omega arith) in
      (117 ∷ (digits ++ (92 ∷ 117 ∷ second)), encode_utf8 (pair_of u low), rest, all, spelled, k)

  escape_by : (text : List ℕ) (b : ℕ) (bs : List ℕ) (o : Option ℕ) → escape_of b ≡ o → Then (escape_step text o) text bs → One 92 text (b ∷ bs)
  escape_by text b bs None e h = absurd h
  escape_by text b bs (Some c) e h = (b ∷ [], c ∷ [], bs, refl, escaped b c e, h)

  escape : (text bytes : List ℕ) → Characters backslash text K bytes → One 92 text bytes
  escape text [] h = absurd h
  escape text (b ∷ bs) h = cond_both (b == 117) _ _ (λ s. Then s text bs → One 92 text (b ∷ bs))
      (λ t k. let (digits, back, u, is, hexed, so, g) = four None text bs (omega arith, refl) k in
      unit_by text (b ∷ bs) digits back u (ap (λ x. x ∷ bs) (eqb-true b 117 t) ∙ ap (λ t. 117 ∷ t) is) hexed so (is_within 0xD800 0xDBFF u) refl g)
      (λ _ k. escape_by text b bs (escape_of b) refl k) h

  -- the other bytes of a character of several
  tails : (n low width : ℕ) (front text bytes : List ℕ) → IsFront low width n front → Characters (tail low width n) text K bytes
      → (rest back : List ℕ) × (bytes ≡ rest ++ back) × IsLong (front ++ rest) × Characters between (text ++ rest) K back
  tails n low width front text [] f h = absurd h
  tails zero low width front text (b ∷ bs) f h = let (t, k) = cond_on (is_within low (low + width) b) _ _ _ h in
      (b ∷ [], bs, refl, f b (within_from low (low + width) b t) (within_to low (low + width) b t), k)
  tails (suc m) low width front text (b ∷ bs) f h = let (t, k) = cond_on (is_within low (low + width) b) _ _ _ h in
      let (rest, back, is, long, g) = tails m 128 63 (front ++ b ∷ []) (text ++ b ∷ []) bs
      (f b (within_from low (low + width) b t) (within_to low (low + width) b t)) k in
      let left = subst (λ t. Characters between t K back) (append_assoc text (b ∷ []) rest) g in
      (b ∷ rest, back, ap (λ t. b ∷ t) is, subst IsLong (append_assoc front (b ∷ []) rest) long, left)

  one : (text : List ℕ) (b : ℕ) (bs : List ℕ) → Characters between text K (b ∷ bs) → ((b ≡ 34) × K text bs) ⊎ One b text bs
  one text b bs h = let P : StringStep → Type 0 = λ s. Then s text bs → ((b ≡ 34) × K text bs) ⊎ One b text bs in
      cond_both (b == 34) _ _ P (λ t k. inl (eqb-true b 34 t, k)) (λ q.
      cond_both (b == 92) _ _ P (λ t k. inr (subst (λ c. One c text bs) (sym (eqb-true b 92 t)) (escape text bs k))) (λ s. unescaped_by P text b
      (λ l u k. inr ([], b ∷ [], bs, refl, short_character b l u (eqb-false b 34 q) (eqb-false b 92 s), k))
      (λ low width n f k. let (rest, back, is, long, g) = tails n low width (b ∷ []) (text ++ b ∷ []) bs f k in
      inr (rest, b ∷ rest, back, is, long_character (b ∷ rest) long, subst (λ t. Characters between t K back) (append_assoc text (b ∷ []) rest) g))
      (λ k. absurd k))) h

  all : (n : ℕ) (text bytes : List ℕ) → length bytes ≤ n → Characters between text K bytes
      → (inside t back : List ℕ) × (bytes ≡ inside ++ 34 ∷ back) × SpellsCharacters inside t × K (text ++ t) back
  all n text [] l h = absurd h
  all zero text (b ∷ bs) l h = absurd (omega (arith, l))
  all (suc n) text (b ∷ bs) l h = elim (one text b bs h) [
    | inl mark ↦ ([], [], bs, ap (λ x. x ∷ bs) mark.0, none, subst (λ t. K t bs) (sym (append-nil text)) mark.1)
    | inr character ↦ let (a, x, rest, is, spelled, k) = character in
        let (inside, t, back, same, others, g) = all n (text ++ x) rest (omega (arith, l, ap length is, length-append a rest)) k in
        let joined = ap (λ t. b ∷ t) (is ∙ ap (λ t. a ++ t) same) ∙ sym (append_assoc (b ∷ a) inside (34 ∷ back)) in
        ((b ∷ a) ++ inside, x ++ t, back, joined, more spelled others, subst (λ t. K t back) (append_assoc text x t) g)
  ]

  pub characters_spelled : (bytes : List ℕ) → Characters between [] K bytes
      → (inside text back : List ℕ) × (bytes ≡ inside ++ 34 ∷ back) × SpellsCharacters inside text × K text back
  characters_spelled bytes h = all (length bytes) [] bytes (omega arith) h

  -- the same steps back
  back : (part p : StringPart) (text t : List ℕ) (b : ℕ) (bs : List ℕ) → string_step part text b ≡ goes_on p t → Characters p t K bs
      → Characters part text K (b ∷ bs)
  back part p text t b bs e h = subst (λ s. Then s text bs) (sym e) h

  tail_back : (low width n : ℕ) (text : List ℕ) (b : ℕ) (bs : List ℕ) → low ≤ b → b ≤ low + width → Characters (tail_after n) (text ++ b ∷ []) K bs
      → Characters (tail low width n) text K (b ∷ bs)
  tail_back low width n text b bs l u h = back (tail low width n) (tail_after n) text (text ++ b ∷ []) b bs (cond-true _ _ _ (inside low (low + width) b l u)) h

  back_2 : (text : List ℕ) (a b : ℕ) (bs : List ℕ) → 194 ≤ a → a ≤ 223 → 128 ≤ b → b ≤ 191 → Characters between (text ++ a ∷ b ∷ []) K bs
      → Characters between text K (a ∷ b ∷ bs)
  back_2 text a b bs h i j k g = back between (tail 128 63 0) text (text ++ a ∷ []) a (b ∷ bs) (grind (arith, nat_tests))
      (tail_back 128 63 0 (text ++ a ∷ []) b bs j k (subst (λ t. Characters between t K bs) (sym (append_assoc text (a ∷ []) (b ∷ []))) g))

  back_3 : (text : List ℕ) (a b c low width : ℕ) (bs : List ℕ) → string_step between text a ≡ goes_on (tail low width 1) (text ++ a ∷ [])
      → low ≤ b → b ≤ low + width → 128 ≤ c → c ≤ 191 → Characters between (text ++ a ∷ b ∷ c ∷ []) K bs → Characters between text K (a ∷ b ∷ c ∷ bs)
  back_3 text a b c low width bs e h i j k g = back between (tail low width 1) text (text ++ a ∷ []) a (b ∷ c ∷ bs) e
      (tail_back low width 1 (text ++ a ∷ []) b (c ∷ bs) h i (tail_back 128 63 0 ((text ++ a ∷ []) ++ b ∷ []) c bs j k
      (subst (λ t. Characters between t K bs) (sym (simp append_assoc)) g)))

  back_4 : (text : List ℕ) (a b c d low width : ℕ) (bs : List ℕ) → string_step between text a ≡ goes_on (tail low width 2) (text ++ a ∷ [])
      → low ≤ b → b ≤ low + width → 128 ≤ c → c ≤ 191 → 128 ≤ d → d ≤ 191
      → Characters between (text ++ a ∷ b ∷ c ∷ d ∷ []) K bs → Characters between text K (a ∷ b ∷ c ∷ d ∷ bs)
  back_4 text a b c d low width bs e h i j k l m g = back between (tail low width 2) text (text ++ a ∷ []) a (b ∷ c ∷ d ∷ bs) e
      (tail_back low width 2 (text ++ a ∷ []) b (c ∷ d ∷ bs) h i (tail_back 128 63 1 ((text ++ a ∷ []) ++ b ∷ []) c (d ∷ bs) j k
      (tail_back 128 63 0 (((text ++ a ∷ []) ++ b ∷ []) ++ c ∷ []) d bs l m (subst (λ t. Characters between t K bs) (sym (simp append_assoc)) g))))

  -- an unescaped character by its number of bytes
  long_3_back : (text : List ℕ) (c : ℕ) (bs : List ℕ) → 2048 ≤ c → c < 65536 → (c < 55296) ⊎ (57344 ≤ c) → (a x y : ℕ) → a ≡ 224 + c / 4096
      → x ≡ 128 + (c / 64) % 64 → y ≡ 128 + c % 64 → Characters between (text ++ a ∷ x ∷ y ∷ []) K bs → Characters between text K (a ∷ x ∷ y ∷ bs)
  long_3_back text c bs l u s a x y e f g h =
      ⊎_elim (λ n. back_3 text a x y 160 31 bs (rw n refl) (omega arith) (omega arith) (omega arith) (omega arith) h) (λ m.
      ⊎_elim (λ n. back_3 text a x y 128 31 bs (rw n refl) (omega arith) (omega arith) (omega arith) (omega arith) h) (λ n.
      back_3 text a x y 128 63 bs (lead_3 text a (omega arith) (omega arith) n) (omega arith) (omega arith) (omega arith) (omega arith) h)
      (cases_eq a 237)) (cases_eq a 224)

  long_4_back : (text : List ℕ) (c : ℕ) (bs : List ℕ) → 65536 ≤ c → c < 1114112 → (a x y z : ℕ) → a ≡ 240 + c / 262144 → x ≡ 128 + (c / 4096) % 64
      → y ≡ 128 + (c / 64) % 64 → z ≡ 128 + c % 64 → Characters between (text ++ a ∷ x ∷ y ∷ z ∷ []) K bs → Characters between text K (a ∷ x ∷ y ∷ z ∷ bs)
  long_4_back text c bs l u a x y z e f g i h =
      ⊎_elim (λ n. back_4 text a x y z 144 47 bs (rw n refl) (omega arith) (omega arith) (omega arith) (omega arith) (omega arith) (omega arith) h) (λ m.
      ⊎_elim (λ n. back_4 text a x y z 128 15 bs (rw n refl) (omega arith) (omega arith) (omega arith) (omega arith) (omega arith) (omega arith) h) (λ n.
      back_4 text a x y z 128 63 bs (lead_4 text a (omega arith) (omega arith)) (omega arith) (omega arith) (omega arith) (omega arith) (omega arith)
      (omega arith) h) (cases_eq a 244)) (cases_eq a 240)

  unescaped_back : (text : List ℕ) (c : ℕ) (bs : List ℕ) → (c < 55296) ⊎ ((57344 ≤ c) × (c < 1114112)) → 32 ≤ c → c ≢ 34 → c ≢ 92
      → Characters between (text ++ encode_utf8 c) K bs → Characters between text K (encode_utf8 c ++ bs)
  unescaped_back text c bs s l q r h = let P : List ℕ → Type 0 = λ x. Characters between (text ++ x) K bs → Characters between text K (x ++ bs) in
      ⊎_elim (λ u. subst P (sym (encode_1 c u)) (back between between text (text ++ c ∷ []) c bs (short text c l u q r)) h) (λ a.
      ⊎_elim (λ u. subst P (sym (encode_2 c a u)) (back_2 text _ _ bs (omega arith) (omega arith) (omega arith) (omega arith)) h) (λ a.
      ⊎_elim (λ u. subst P (sym (encode_3 c a u)) (long_3_back text c bs a u (⊎_elim (λ x. inl x) (λ x. inr x.0) s) _ _ _ refl refl refl) h) (λ a.
      subst P (sym (encode_4 c a)) (long_4_back text c bs a (below c s) _ _ _ _ refl refl refl refl) h) (cases_lt c 65536)) (cases_lt c 2048)) (cases_lt c 128)

  digit_back : (lead : Option ℕ) (left n : ℕ) (text : List ℕ) (b d : ℕ) (bs : List ℕ) → hex_digit_of b ≡ Some d → digit_fits lead left n d ≡ true
      → Then (unit_after text lead left (16 * n + d)) text bs → Characters (hex lead left n) text K (b ∷ bs)
  digit_back lead left n text b d bs e f h = subst (λ s. Then s text bs) (sym (ap (hex_step text lead left n) e ∙ cond-true _ _ _ f)) h

  four_back : (lead : Option ℕ) (text digits bs : List ℕ) (u : ℕ) → IsHex digits u → IsUnitSoFar lead zero u → Then (unit_step text lead u) text bs
      → Characters (hex lead 3 0) text K (digits ++ bs)
  four_back lead text digits bs u (a, b, c, d, w, x, y, z, is, e_a, e_b, e_c, e_d, sum) so h = let one : 16 * 0 + w ≡ w = omega arith in
      let (f, g, i, j) = all_fit lead u w x y z so sum (hex_below a w e_a) (hex_below b x e_b) (hex_below c y e_c) (hex_below d z e_d) in
      subst (λ ds. Characters (hex lead 3 0) text K (ds ++ bs)) (sym is)
      (digit_back lead 3 0 text a w (b ∷ c ∷ d ∷ bs) e_a f (subst (λ n. Characters (hex lead 2 n) text K (b ∷ c ∷ d ∷ bs)) (sym one)
      (digit_back lead 2 w text b x (c ∷ d ∷ bs) e_b g (digit_back lead 1 (16 * w + x) text c y (d ∷ bs) e_c i
      (digit_back lead 0 (16 * (16 * w + x) + y) text d z bs e_d j (subst (λ n. Then (unit_step text lead n) text bs) sum h))))))

  character_from : {a x : List ℕ} (text bs : List ℕ) → SpellsCharacter a x → Characters between (text ++ x) K bs → Characters between text K (a ++ bs)
  character_from text bs (unescaped c s l q r) h = unescaped_back text c bs (scalar_cases c s) l q r h
  character_from text bs (escaped b c e) h = back backslash between text (text ++ c ∷ []) b bs (cond-false _ _ _ (not_unit b c e) ∙ ap (escape_step text) e) h
  character_from text bs (unit digits c hexed s) h = let (so, t) = scalar_unit c (hex_small digits c hexed) (scalar_cases c s) in
      four_back None text digits bs c hexed so (subst (λ s. Then s text bs) (sym (cond-false _ _ _ t)) h)
  character_from text bs (pair first second lead low i j k l) h = let (so, t) = high_unit lead k in
      subst (λ bs. Characters between text K bs) (sym (append_assoc (92 ∷ 117 ∷ first) (92 ∷ 117 ∷ second) bs))
      (four_back None text first (92 ∷ 117 ∷ (second ++ bs)) lead i so (subst (λ s. Then s text (92 ∷ 117 ∷ (second ++ bs))) (sym (cond-true _ _ _ t))
      (four_back (Some lead) text second bs low j (omega (arith, l.1), (l.0, omega (arith, l.1))) h)))

  pub characters_from : {inside t : List ℕ} (text back : List ℕ) → SpellsCharacters inside t → K (text ++ t) back
      → Characters between text K (inside ++ 34 ∷ back)
  characters_from text back none k = subst (λ t. K t back) (append-nil text) k
  characters_from text back (more {a = a} {x = x} {b = b} {y = y} p ps) k = subst (λ bs. Characters between text K bs) (sym (append_assoc a b (34 ∷ back)))
      (character_from text (b ++ 34 ∷ back) p (characters_from (text ++ x) back ps (subst (λ t. K t back) (sym (append_assoc text x y)) k)))

-- a character after a backslash is one byte
escape_below : (b c : ℕ) → escape_of b ≡ Some c → c < 128
escape_below b c e = grind (arith, nat_tests)

pair_scalar : (lead low : ℕ) → IsHighSurrogate lead → IsLowSurrogate low → IsScalar (pair_of lead low)
pair_scalar lead low h l = let a : 0xD800 ≤ lead = h.0 in let b : lead ≤ 0xDBFF = h.1 in let c : 0xDC00 ≤ low = l.0 in let d : low ≤ 0xDFFF = l.1 in
    high_is_scalar (pair_of lead low) (omega arith) (omega arith)

character_utf8 : {bytes text : List ℕ} → SpellsCharacter bytes text → IsUtf8 text
character_utf8 (unescaped c s l q t) = IsUtf8-encode c s
character_utf8 (escaped b c e) = subst IsUtf8 (encode_1 c (escape_below b c e))
    (IsUtf8-encode c (low_is_scalar c (let h = escape_below b c e in omega (arith, h))))
character_utf8 (unit digits c h s) = IsUtf8-encode c s
character_utf8 (pair first second lead low h i j k) = IsUtf8-encode (pair_of lead low) (pair_scalar lead low j k)

-- what characters represent is UTF-8
pub characters_utf8 : {bytes text : List ℕ} → SpellsCharacters bytes text → IsUtf8 text
characters_utf8 none = IsUtf8-nil
characters_utf8 (more {a = a} {x = x} {b = b} {y = y} p ps) = IsUtf8-append x y (character_utf8 p) (characters_utf8 ps)
