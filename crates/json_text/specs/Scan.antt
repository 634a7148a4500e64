-- For private clauses only: a token by itself, as the machine of `Reading` reads it. A result is what the token holds and the
-- number of its bytes, or the number of bytes before the first one with which it cannot continue.
use Rattle.std.specs.Prelude.{◌≡◌, ℕ, zero, suc, ◌+◌, ◌<◌, ◌≤◌, List, [], ◌∷◌, ◌++◌, length, take, drop, if◌then◌else◌, Option, Some, None, Result, Ok, Err, ◌==◌, ◌⊎◌, ◌-◌, ◌^◌}
use Rattle.std.specs.Result.{result_unwrap_or}
use Rattle.json_text.specs.declared.fault.TokenFault.{TokenFault}
use Rattle.json_text.specs.declared.fault.TokenFault.TheVariants.{Stop, NoMemory}
use Rattle.json_text.specs.Reading.{NumberPart, number_step, may_end, StringPart, StringStep, goes_on, ends, stops, string_step, between, hex, tail, unit_step}

abbrev pub number_end : NumberPart → ℕ → Result ℕ ℕ
number_end part n = if may_end part then Ok n else Err n

abbrev pub number_on : Option NumberPart → NumberPart → ℕ → (NumberPart → Result ℕ ℕ) → Result ℕ ℕ
number_on None part n next = number_end part n
number_on (Some other) part n next = next other

-- a number's bytes after its first one
unfoldable pub scan_number : NumberPart → ℕ → List ℕ → Result ℕ ℕ
scan_number part n [] = number_end part n
scan_number part n (b ∷ bs) = number_on (number_step part b) part n (λ other. scan_number other (n + 1) bs)

abbrev pub string_on : StringStep → List ℕ → ℕ → (StringPart → List ℕ → Result (List ℕ × ℕ) ℕ) → Result (List ℕ × ℕ) ℕ
string_on (goes_on part text) old n next = next part text
string_on ends old n next = Ok (old, n + 1)
string_on stops old n next = Err n

-- a string's bytes after its first quotation mark
unfoldable pub scan_string : StringPart → List ℕ → ℕ → List ℕ → Result (List ℕ × ℕ) ℕ
scan_string part text n [] = Err n
scan_string part text n (b ∷ bs) = string_on (string_step part text b) text n (λ p t. scan_string p t (n + 1) bs)

-- a word's bytes
unfoldable pub scan_word : List ℕ → ℕ → List ℕ → Result ℕ ℕ
scan_word [] n bytes = Ok n
scan_word (c ∷ cs) n [] = Err n
scan_word (c ∷ cs) n (b ∷ bs) = if b == c then scan_word cs (n + 1) bs else Err n

-- From one part with a text, this number of bytes leads to another part with another text.
abbrev pub Passes : StringPart → List ℕ → List ℕ → StringPart → List ℕ → ℕ → Type 0
Passes part text bytes other new n = (n ≤ length bytes) × ((base : ℕ) → scan_string part text base bytes ≡ scan_string other new (base + n) (drop n bytes))

-- The number of bytes of a part, as the result says, or the place at which the string cannot continue.
abbrev pub Scanned : StringPart → List ℕ → List ℕ → StringPart → List ℕ → Result ℕ TokenFault → Type 0
Scanned part text bytes other new (Ok n) = Passes part text bytes other new n
Scanned part text bytes other new (Err (Stop n)) = (n ≤ length bytes) × ((base : ℕ) → scan_string part text base bytes ≡ Err (base + n))
Scanned part text bytes other new (Err NoMemory) = Unit {0}

-- the bytes are unescaped
abbrev pub Taken : StringPart → List ℕ → Result ℕ TokenFault → Type 0
Taken part bytes result = (text : List ℕ) → Scanned part text bytes between (text ++ take (result_unwrap_or result 0) bytes) result

-- the same with more bytes before it
abbrev pub after_of : ℕ → Result ℕ TokenFault → Result ℕ TokenFault
after_of count (Ok n) = Ok (count + n)
after_of count (Err (Stop n)) = Err (Stop (count + n))
after_of count (Err NoMemory) = Err NoMemory

abbrev pub HasRoom : ℕ → Result ℕ TokenFault → Type 0
HasRoom count (Ok n) = count + n < 2 ^ 64
HasRoom count (Err (Stop n)) = count + n < 2 ^ 64
HasRoom count (Err NoMemory) = Unit {0}

-- the first byte of a character of several bytes, with the range of the next byte and how many come after that
abbrev pub first_step : List ℕ → ℕ → Option (ℕ × ℕ × ℕ) → StringStep
first_step text b None = stops
first_step text b (Some t) = goes_on (tail t.0 (t.1 - t.0) t.2) (text ++ b ∷ [])

-- what the digits so far make sure of, by how many are left
abbrev pub IsSoFar : Option ℕ → ℕ → ℕ → Type 0
IsSoFar None zero unit = (unit < 0xDC00) ⊎ (0xE000 ≤ unit)
IsSoFar None (suc zero) unit = (unit < 4096) × ((unit < 0xDC0) ⊎ (0xE00 ≤ unit))
IsSoFar None (suc (suc zero)) unit = (unit < 256) × ((unit < 0xDC) ⊎ (0xE0 ≤ unit))
IsSoFar None (suc (suc (suc zero))) unit = unit < 16
IsSoFar None (suc (suc (suc (suc left)))) unit = unit ≡ 0
IsSoFar (Some lead) zero unit = (0xDC00 ≤ unit) × (unit < 0xE000)
IsSoFar (Some lead) (suc zero) unit = (0xDC0 ≤ unit) × (unit < 0xE00)
IsSoFar (Some lead) (suc (suc zero)) unit = (0xDC ≤ unit) × (unit < 0xE0)
IsSoFar (Some lead) (suc (suc (suc zero))) unit = unit ≡ 13
IsSoFar (Some lead) (suc (suc (suc (suc left)))) unit = unit ≡ 0

abbrev pub IsUnitSoFar : Option ℕ → ℕ → ℕ → Type 0
IsUnitSoFar lead left unit = (unit < 65536) × IsSoFar lead left unit

-- a code unit of which a number of digits is left
abbrev pub unit_left : Option ℕ → ℕ → ℕ → List ℕ → ℕ → List ℕ → Result (List ℕ × ℕ) ℕ
unit_left lead zero unit text base bytes = string_on (unit_step text lead unit) text base (λ p t. scan_string p t base bytes)
unit_left lead (suc left) unit text base bytes = scan_string (hex lead left unit) text base bytes

-- the digit at a place continues the unit so far, or is not allowed there
abbrev pub GoesToUnit : Option ℕ → List ℕ → ℕ → ℕ → ℕ → Type 0
GoesToUnit lead digits place unit next = (place < length digits) × IsUnitSoFar lead (4 - (place + 1)) next
    × ((text : List ℕ) (base : ℕ)
    → unit_left lead (4 - place) unit text base (drop place digits) ≡ unit_left lead (4 - (place + 1)) next text (base + 1) (drop (place + 1) digits))

abbrev pub StopsAt : Option ℕ → List ℕ → ℕ → ℕ → Type 0
StopsAt lead digits place unit = (text : List ℕ) (base : ℕ) → unit_left lead (4 - place) unit text base (drop place digits) ≡ Err base

-- Four digits after the lead, if there is one, are read as the code unit, or give the place at which they cannot continue.
abbrev pub IsUnit : Option ℕ → List ℕ → Result ℕ TokenFault → Type 0
IsUnit lead digits (Ok unit) = (4 ≤ length digits) × IsUnitSoFar lead 0 unit
    × ((text : List ℕ) (base : ℕ) → scan_string (hex lead 3 0) text base digits ≡ unit_left lead 0 unit text (base + 4) (drop 4 digits))
IsUnit lead digits (Err (Stop n)) = (n ≤ length digits) × ((text : List ℕ) (base : ℕ) → scan_string (hex lead 3 0) text base digits ≡ Err (base + n))
IsUnit lead digits (Err NoMemory) = Unit {0}
