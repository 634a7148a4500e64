-- Strings (RFC 8259, section 7): string = quotation-mark *char quotation-mark.
use Rattle.std.specs.Prelude.{◌≡◌, ◌≢◌, ℕ, ◌+◌, ◌-◌, ◌*◌, ◌≤◌, List, [], ◌∷◌, ◌++◌, Option, Some, None, encode_utf8}
use Rattle.std.specs.Prelude.{if◌then◌else◌, ◌==◌, nat_le, ◌&&◌}
use Rattle.std.specs.Char.{IsScalar}

-- the character after a backslash, and the character that the two spell
abbrev pub escape_of : ℕ → Option ℕ
escape_of b =
    if b == 34 then Some 34 else
    if b == 92 then Some 92 else
    if b == 47 then Some 47 else
    if b == 98 then Some 8 else
    if b == 102 then Some 12 else
    if b == 110 then Some 10 else
    if b == 114 then Some 13 else
    if b == 116 then Some 9 else None

-- HEXDIG, in either case, as RFC 5234 reads the letters in its quotation marks
abbrev pub hex_digit_of : ℕ → Option ℕ
hex_digit_of b =
    if nat_le 48 b && nat_le b 57 then Some (b - 48) else
    if nat_le 65 b && nat_le b 70 then Some (b - 55) else
    if nat_le 97 b && nat_le b 102 then Some (b - 87) else None

-- 4HEXDIG, and the code unit that they spell
abbrev pub IsHex : List ℕ → ℕ → Type 0
IsHex digits unit = (a b c d w x y z : ℕ) × (digits ≡ a ∷ b ∷ c ∷ d ∷ [])
    × (hex_digit_of a ≡ Some w) × (hex_digit_of b ≡ Some x) × (hex_digit_of c ≡ Some y) × (hex_digit_of d ≡ Some z)
    × (unit ≡ 16 * (16 * (16 * w + x) + y) + z)

-- the surrogates of UTF-16 (RFC 2781, section 2.1)
abbrev pub IsHighSurrogate : ℕ → Type 0
IsHighSurrogate unit = (0xD800 ≤ unit) × (unit ≤ 0xDBFF)

abbrev pub IsLowSurrogate : ℕ → Type 0
IsLowSurrogate unit = (0xDC00 ≤ unit) × (unit ≤ 0xDFFF)

abbrev pub pair_of : ℕ → ℕ → ℕ
pair_of high low = 0x10000 + 0x400 * (high - 0xD800) + (low - 0xDC00)

-- Bytes that spell one character, and the character in UTF-8 (RFC 8259, section 7): a Unicode scalar value from U+0020 on other than `"`
-- and `\`; one of eight escapes of two bytes; `\u` with four hexadecimal digits of a scalar value; or two such escapes, a high and then a
-- low surrogate. A surrogate alone is no character.
-- Shown by: text_tests test_json_text.rt: outside_cases_go_as_marked.
pub data SpellsCharacter : List ℕ → List ℕ → Type 0 where
  unescaped : (c : ℕ) → IsScalar c → 32 ≤ c → c ≢ 34 → c ≢ 92 → SpellsCharacter (encode_utf8 c) (encode_utf8 c)
  escaped : (b c : ℕ) → escape_of b ≡ Some c → SpellsCharacter (92 ∷ b ∷ []) (c ∷ [])
  unit : (digits : List ℕ) (c : ℕ) → IsHex digits c → IsScalar c → SpellsCharacter (92 ∷ 117 ∷ digits) (encode_utf8 c)
  pair : (first second : List ℕ) (high low : ℕ) → IsHex first high → IsHex second low → IsHighSurrogate high → IsLowSurrogate low
      → SpellsCharacter ((92 ∷ 117 ∷ first) ++ (92 ∷ 117 ∷ second)) (encode_utf8 (pair_of high low))

-- *char, and the text that they spell
pub data SpellsCharacters : List ℕ → List ℕ → Type 0 where
  none : SpellsCharacters [] []
  more : {a x b y : List ℕ} → SpellsCharacter a x → SpellsCharacters b y → SpellsCharacters (a ++ b) (x ++ y)

-- Characters between quotation marks.
-- Shown by: text_tests test_json_text.rt: outside_cases_go_as_marked.
abbrev pub SpellsString : List ℕ → List ℕ → Type 0
SpellsString bytes text = (inside : List ℕ) × (bytes ≡ 34 ∷ (inside ++ 34 ∷ [])) × SpellsCharacters inside text
