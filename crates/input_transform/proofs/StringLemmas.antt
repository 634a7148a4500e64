-- The characters of a string: `spelled_inside`, `letter_first`, `plain_spelled`, and the same of a name: `name_inside`, `name_spells`.
use Rattle.std.proofs.Common.{◌≡◌, ◌≢◌, ℕ, ◌<◌, ◌≤◌, Bool, true, false, ◌==◌, ◌||◌, List, [], ◌∷◌, ◌++◌, Some, refl, sym, ap, ◌∙◌, subst, ⊎_elim, arith, append_assoc, encode_utf8}
use Rattle.std.specs.List.{list_all}
use Rattle.std.proofs.lemmas.Str.{encode_same}
use Rattle.std.proofs.lemmas.Bool.{false≢true, cases_lt, and_parts, eq-eqb, ne_eqb}
use Rattle.std.proofs.lemmas.Bool.Decides.{nat_tests}
use Rattle.json_text.specs.Characters.{SpellsCharacter, unescaped, escaped, unit, pair, SpellsCharacters, none, more, IsHex, hex_digit_of}
use Rattle.json_text.proofs.Encoded.{encode_1, encode_2, encode_3, encode_4}
use Rattle.json_text.proofs.CharacterReads.{short_character}
use Rattle.input_transform.specs.Names.{is_name_byte}
use Rattle.input_transform.specs.Letters.{is_inside}
use Rattle.input_transform.proofs.RewriteLemmas.{step_plain}

-- bytes that no string ends at
abbrev ArePlain : List ℕ → Type 0
ArePlain [] = Unit {0}
ArePlain (b ∷ bs) = (b ≢ 34) × (b ≢ 92) × ArePlain bs

plain_inside : (bs after : List ℕ) → ArePlain bs → is_inside false (bs ++ after) ≡ is_inside false after
plain_inside [] after h = refl
plain_inside (b ∷ bs) after h =
    step_plain b (bs ++ after) (ne_eqb b 34 h.0) ∙ ap (λ e. is_inside e (bs ++ after)) (ne_eqb b 92 h.1) ∙ plain_inside bs after h.2

encoded_plain : (c : ℕ) → 32 ≤ c → c ≢ 34 → c ≢ 92 → ArePlain (encode_utf8 c)
encoded_plain c s q t = ⊎_elim (λ h. subst ArePlain (sym (encode_1 c h)) (q, t, tt)) (λ l.
    ⊎_elim (λ h. subst ArePlain (sym (encode_2 c l h)) ((λ e. omega arith), (λ e. omega arith), ((λ e. omega arith), (λ e. omega arith), tt))) (λ m.
    ⊎_elim (λ h. subst ArePlain (sym (encode_3 c m h)) ((λ e. omega arith), (λ e. omega arith), ((λ e. omega arith), (λ e. omega arith), ((λ e. omega arith), (λ e. omega arith), tt))))
    (λ u. subst ArePlain (sym (encode_4 c u)) (
      (λ e. omega arith),
      (λ e. omega arith),
      (
        (λ e. omega arith),
        (λ e. omega arith),
        (
          (λ e. omega arith),
          (λ e. omega arith),
          ((λ e. omega arith), (λ e. omega arith), tt),
        ),
      ),
    )) (cases_lt c 65536)) (cases_lt c 2048)) (cases_lt c 128)

hex_plain : (b d : ℕ) → hex_digit_of b ≡ Some d → (b ≢ 34) × (b ≢ 92)
hex_plain b d e = ((λ k. let f : hex_digit_of 34 ≡ Some d = subst (λ x. hex_digit_of x ≡ Some d) k e in cc), (λ k. let f : hex_digit_of 92 ≡ Some d = subst (λ x. hex_digit_of x ≡ Some d) k e in cc))

digits_plain : (digits : List ℕ) (u : ℕ) → IsHex digits u → ArePlain digits
digits_plain digits u (a, b, c, d, w, x, y, z, is, e, f, g, h, sum) =
    let p = hex_plain a w e in let q = hex_plain b x f in let r = hex_plain c y g in let s = hex_plain d z h in
    subst ArePlain (sym is) (p.0, p.1, (q.0, q.1, (r.0, r.1, (s.0, s.1, tt))))

escape_inside : (digits after : List ℕ) → ArePlain digits → is_inside false ((92 ∷ 117 ∷ digits) ++ after) ≡ is_inside false after
escape_inside digits after h = plain_inside digits after h

character_inside : {a x : List ℕ} → SpellsCharacter a x → (after : List ℕ) → is_inside false (a ++ after) ≡ is_inside false after
character_inside (unescaped c s l q t) after = plain_inside (encode_utf8 c) after (encoded_plain c l q t)
character_inside (escaped b c e) after = refl
character_inside (unit digits c h s) after = escape_inside digits after (digits_plain digits c h)
character_inside (pair first second high low h k i j) after =
    ap (is_inside false) (append_assoc (92 ∷ 117 ∷ first) (92 ∷ 117 ∷ second) after)
    ∙ escape_inside first ((92 ∷ 117 ∷ second) ++ after) (digits_plain first high h) ∙ escape_inside second after (digits_plain second low k)

pub spelled_inside : {bytes t : List ℕ} → SpellsCharacters bytes t → is_inside false bytes ≡ true
spelled_inside none = refl
spelled_inside (more {b = b} p ps) = character_inside p b ∙ spelled_inside ps

-- a letter in front of a string's characters, and in front of its text
pub letter_before : (b : ℕ) {bytes t : List ℕ} → 32 ≤ b → b ≤ 127 → b ≢ 34 → b ≢ 92 → SpellsCharacters bytes t → SpellsCharacters (b ∷ bytes) (b ∷ t)
letter_before b low high q s h = more (short_character b low high q s) h

apart_heads : (b c : ℕ) (xs ys : List ℕ) → b ∷ xs ≡ c ∷ ys → (b == c) ≡ false → ⊥
apart_heads b c xs ys e f = false≢true (sym f ∙ eq-eqb b c (let same : b ≡ c = cc in same))

abbrev First : ℕ → List ℕ → List ℕ → Type 0
First letter s t = (u : List ℕ) × (t ≡ letter ∷ u) × SpellsCharacters s u

character_first : (letter : ℕ) (a x b y s : List ℕ) → letter < 128 → (92 == letter) ≡ false → SpellsCharacter a x → SpellsCharacters b y → a ++ b ≡ letter ∷ s
    → First letter s (x ++ y)
character_first letter a x b y s low other (unescaped c i l q t) ps e =
    let k = encode_same c letter b s (e ∙ ap (λ z. z ++ s) (sym (encode_1 letter low))) in
    (y, ap (λ z. encode_utf8 z ++ y) k.0 ∙ ap (λ z. z ++ y) (encode_1 letter low), subst (λ z. SpellsCharacters z y) k.1 ps)
character_first letter a x b y s low other (escaped d c f) ps e = absurd (apart_heads 92 letter (d ∷ b) s e other)
character_first letter a x b y s low other (unit digits c h i) ps e = absurd (apart_heads 92 letter (117 ∷ (digits ++ b)) s e other)
character_first letter a x b y s low other (pair first second high lo h k i j) ps e =
    absurd (apart_heads 92 letter (117 ∷ ((first ++ 92 ∷ 117 ∷ second) ++ b)) s e other)

-- a string's text begins with the letter that its characters begin with
pub letter_first : (letter : ℕ) (bytes s t : List ℕ) → letter < 128 → (92 == letter) ≡ false → SpellsCharacters bytes t → bytes ≡ letter ∷ s → First letter s t
letter_first letter bytes s t low other none e = cc
letter_first letter bytes s t low other (more {a = a} {x = x} {b = b} {y = y} p ps) e = character_first letter a x b y s low other p ps e

-- bytes without an escape spell themselves
abbrev NoEscape : List ℕ → Type 0
NoEscape [] = Unit {0}
NoEscape (b ∷ bs) = ((92 == b) ≡ false) × NoEscape bs

NoEscape-right : (xs ys : List ℕ) → NoEscape (xs ++ ys) → NoEscape ys
NoEscape-right [] ys h = h
NoEscape-right (x ∷ xs) ys h = NoEscape-right xs ys h.1

character_itself : (a x b : List ℕ) → SpellsCharacter a x → NoEscape (a ++ b) → x ≡ a
character_itself a x b (unescaped c i l q t) h = refl
character_itself a x b (escaped d c f) h = absurd (false≢true (sym h.0))
character_itself a x b (unit digits c k i) h = absurd (false≢true (sym h.0))
character_itself a x b (pair first second high lo k m i j) h = absurd (false≢true (sym h.0))

pub plain_itself : (bytes t : List ℕ) → SpellsCharacters bytes t → NoEscape bytes → t ≡ bytes
plain_itself bytes t none h = refl
plain_itself bytes t (more {a = a} {x = x} {b = b} {y = y} p ps) h =
    let k = character_itself a x b p h in let l = plain_itself b y ps (NoEscape-right a b h) in ap (λ z. z ++ y) k ∙ ap (λ z. a ++ z) l

-- the bytes of a name
name_byte_escape : (b : ℕ) → is_name_byte b ≡ true → (92 == b) ≡ false
name_byte_escape b h = grind (arith, nat_tests)

pub name_no_escape : (n : List ℕ) → list_all is_name_byte n ≡ true → NoEscape n
name_no_escape [] h = tt
name_no_escape (b ∷ n) h = let p = and_parts (is_name_byte b) (list_all is_name_byte n) h in (name_byte_escape b p.0, name_no_escape n p.1)

name_byte_bounds : (b : ℕ) → is_name_byte b ≡ true → (32 ≤ b) × (b ≤ 127)
name_byte_bounds b h = (grind (arith, nat_tests), grind (arith, nat_tests))

name_byte_34 : (b : ℕ) → is_name_byte b ≡ true → b ≢ 34
name_byte_34 b h e = false≢true (subst (λ x. is_name_byte x ≡ true) e h)

name_byte_92 : (b : ℕ) → is_name_byte b ≡ true → b ≢ 92
name_byte_92 b h e = false≢true (subst (λ x. is_name_byte x ≡ true) e h)

pub name_spells : (n : List ℕ) → list_all is_name_byte n ≡ true → SpellsCharacters n n
name_spells [] h = none
name_spells (b ∷ n) h =
    let p = and_parts (is_name_byte b) (list_all is_name_byte n) h in
    letter_before b (name_byte_bounds b p.0).0 (name_byte_bounds b p.0).1 (name_byte_34 b p.0) (name_byte_92 b p.0) (name_spells n p.1)

pub name_inside : (n : List ℕ) → list_all is_name_byte n ≡ true → is_inside false n ≡ true
name_inside n h = spelled_inside (name_spells n h)
