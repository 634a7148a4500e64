-- The bytes of a character in UTF-8, by their ranges (RFC 3629, section 4): `encode_1` to `encode_4`, `long_2` to `long_4`.
use Rattle.std.proofs.Common.{◌≡◌, ℕ, ◌+◌, ◌-◌, ◌*◌, ◌/◌, ◌%◌, ◌<◌, ◌≤◌, List, [], ◌∷◌, ◌⊎◌, ⊎_elim, refl, sym, ◌∙◌, arith, le-ltb, lt-ltb, le-leb}
use Rattle.std.proofs.{Math.Utf8.low_scalar, lemmas.Bool.cond-true, lemmas.Bool.cond-false}
use Rattle.std.specs.Char.{encode_utf8, IsScalar}

pub encode_1 : (c : ℕ) → c < 128 → encode_utf8 c ≡ c ∷ []
unfolding encode_utf8
encode_1 c h = cond-true _ _ _ (lt-ltb c 128 h)

pub encode_2 : (c : ℕ) → 128 ≤ c → c < 2048 → encode_utf8 c ≡ (192 + c / 64) ∷ (128 + c % 64) ∷ []
unfolding encode_utf8
encode_2 c l h = cond-false _ _ _ (le-ltb c 128 l) ∙ cond-true _ _ _ (lt-ltb c 2048 h)

pub encode_3 : (c : ℕ) → 2048 ≤ c → c < 65536 → encode_utf8 c ≡ (224 + c / 4096) ∷ (128 + (c / 64) % 64) ∷ (128 + c % 64) ∷ []
unfolding encode_utf8
encode_3 c l h = cond-false _ _ _ (le-ltb c 128 (omega arith)) ∙ (cond-false _ _ _ (le-ltb c 2048 l) ∙ cond-true _ _ _ (lt-ltb c 65536 h))

pub encode_4 : (c : ℕ) → 65536 ≤ c → encode_utf8 c ≡ (240 + c / 262144) ∷ (128 + (c / 4096) % 64) ∷ (128 + (c / 64) % 64) ∷ (128 + c % 64) ∷ []
unfolding encode_utf8
encode_4 c l = cond-false _ _ _ (le-ltb c 128 (omega arith)) ∙ (cond-false _ _ _ (le-ltb c 2048 (omega arith)) ∙ cond-false _ _ _ (le-ltb c 65536 l))

pub low_is_scalar : (c : ℕ) → c < 55296 → IsScalar c
low_is_scalar c h = low_scalar c h

pub high_is_scalar : (c : ℕ) → 57344 ≤ c → c < 1114112 → IsScalar c
high_is_scalar c l h = cond-false _ _ _ (le-ltb c 55296 (omega arith)) ∙ rw (le-leb 57344 c l, lt-ltb c 1114112 h)

-- the bytes are a character of several bytes
abbrev pub IsLong : List ℕ → Type 0
IsLong bytes = (c : ℕ) × IsScalar c × (128 ≤ c) × (bytes ≡ encode_utf8 c)

two : (a b c : ℕ) → c ≡ 64 * (a - 192) + (b - 128) → 194 ≤ a → 128 ≤ b → b ≤ 191 → a ∷ b ∷ [] ≡ (192 + c / 64) ∷ (128 + c % 64) ∷ []
two a b c e h j k = let f : a ≡ 192 + c / 64 = omega arith in let g : b ≡ 128 + c % 64 = omega arith in cc

pub long_2 : (a b : ℕ) → 194 ≤ a → a ≤ 223 → 128 ≤ b → b ≤ 191 → IsLong (a ∷ b ∷ [])
long_2 a b h i j k = let c : ℕ = 64 * (a - 192) + (b - 128) in
    (c, low_is_scalar c (omega arith), omega arith, two a b c refl h j k ∙ sym (encode_2 c (omega arith) (omega arith)))

three : (a b c n : ℕ) → n ≡ 64 * (64 * (a - 224) + (b - 128)) + (c - 128) → 224 ≤ a → 128 ≤ b → b ≤ 191 → 128 ≤ c → c ≤ 191
    → a ∷ b ∷ c ∷ [] ≡ (224 + n / 4096) ∷ (128 + (n / 64) % 64) ∷ (128 + n % 64) ∷ []
three a b c n e h j k l m =
    let f : a ≡ 224 + n / 4096 = omega arith in let g : b ≡ 128 + (n / 64) % 64 = omega arith in let i : c ≡ 128 + n % 64 = omega arith in cc

four : (a b c d n : ℕ) → n ≡ 64 * (64 * (64 * (a - 240) + (b - 128)) + (c - 128)) + (d - 128) → 240 ≤ a → 128 ≤ b → b ≤ 191 → 128 ≤ c → c ≤ 191 → 128 ≤ d
    → d ≤ 191 → a ∷ b ∷ c ∷ d ∷ [] ≡ (240 + n / 262144) ∷ (128 + (n / 4096) % 64) ∷ (128 + (n / 64) % 64) ∷ (128 + n % 64) ∷ []
four a b c d n e h j k l m o p = let f : a ≡ 240 + n / 262144 = omega arith in let g : b ≡ 128 + (n / 4096) % 64 = omega arith in
    let i : c ≡ 128 + (n / 64) % 64 = omega arith in let q : d ≡ 128 + n % 64 = omega arith in cc

apart : (a b c : ℕ) → 224 ≤ a → a ≤ 239 → 128 ≤ b → b ≤ 191 → 128 ≤ c → c ≤ 191 → (b < 160) ⊎ ((a < 237) ⊎ (237 < a))
    → (64 * (64 * (a - 224) + (b - 128)) + (c - 128) < 55296) ⊎ (57344 ≤ 64 * (64 * (a - 224) + (b - 128)) + (c - 128))
apart a b c h i j k l m v = grind arith

-- three bytes, below the surrogates and above them
pub long_3 : (a b c : ℕ) → 224 ≤ a → a ≤ 239 → 128 ≤ b → b ≤ 191 → 128 ≤ c → c ≤ 191 → (160 ≤ b) ⊎ (225 ≤ a) → (b < 160) ⊎ ((a < 237) ⊎ (237 < a))
    → IsLong (a ∷ b ∷ c ∷ [])
long_3 a b c h i j k l m u v = let n : ℕ = 64 * (64 * (a - 224) + (b - 128)) + (c - 128) in let low : 2048 ≤ n = omega arith in
    let up : n < 65536 = omega arith in
    let scalar : IsScalar n = ⊎_elim (λ x. low_is_scalar n x) (λ x. high_is_scalar n x (omega arith)) (apart a b c h i j k l m v) in
    (n, scalar, omega arith, three a b c n refl h j k l m ∙ sym (encode_3 n low up))

-- four bytes
pub long_4 : (a b c d : ℕ) → 240 ≤ a → a ≤ 244 → 128 ≤ b → b ≤ 191 → 128 ≤ c → c ≤ 191 → 128 ≤ d → d ≤ 191 → (144 ≤ b) ⊎ (241 ≤ a) → (b < 144) ⊎ (a < 244)
    → IsLong (a ∷ b ∷ c ∷ d ∷ [])
long_4 a b c d h i j k l m o p u v = let n : ℕ = 64 * (64 * (64 * (a - 240) + (b - 128)) + (c - 128)) + (d - 128) in let low : 65536 ≤ n = omega arith in
    let up : n < 1114112 = omega arith in (n, high_is_scalar n (omega arith) up, omega arith, four a b c d n refl h j k l m o p ∙ sym (encode_4 n low))
