-- The clauses of `size_in_millionths` over plain numbers: an exponent above the cap acts as the cap
-- does, and the parts' `HasSize` is the equation that `moved` solves
use Rattle.std.proofs.Common.{◌≡◌, ◌≢◌, ℕ, ◌+◌, ◌-◌, ◌*◌, ◌^◌, ◌<◌, ◌≤◌, min, Bool, true, false, List, ◌++◌, sym, ◌∙◌, ap, arith, ⊎_elim}
use Rattle.std.proofs.Common.{◌⊎◌, inl, inr, Option, Some, None}
use Rattle.std.proofs.Math.Nat.{pow-le-pow_right, mul-le-mul_left}
use Rattle.std.proofs.lemmas.Bool.{cases_lt, cases_eq}
use Rattle.std.proofs.lemmas.Nat.{pow-add}
use Rattle.std.specs.Bool.{MatchBool}
use Rattle.std.specs.Option.{IfSome}
use Rattle.std.specs.Str.Parse.{AllDigits, digits_value, digits_value_after}
use Rattle.numeric_keys.proofs.PowerLemmas.{ten_pos, mul_cancel, times_powers, above_largest, same_size, too_long_size, too_long_after}
use Rattle.numeric_keys.proofs.PowerLemmas.{digits_value_after-append}
use Rattle.numeric_keys.specs.Number.{largest_size}
use Rattle.numeric_keys.specs.Significand.{IsTooLong}

-- two numbers of which one is 0 with the other
Vanish : ℕ → ℕ → Type 0
Vanish n size = (n ≡ 0) × (size ≡ 0)

vanish_equal : (n size a b : ℕ) → Vanish n size → n * a ≡ size * b
unfolding Vanish
vanish_equal n size a b h = rw (h.0, h.1) (omega arith)

vanish_from_number : (n size a b : ℕ) → 0 < b → n * a ≡ size * b → n ≡ 0 → Vanish n size
unfolding Vanish
vanish_from_number n size a b pos e none =
    let nothing : 0 * a ≡ size * b = rw none at e in
    (none, mul_cancel size 0 b pos (omega arith))

vanish_from_size : (n size a b : ℕ) → 0 < a → n * a ≡ size * b → size ≡ 0 → Vanish n size
unfolding Vanish
vanish_from_size n size a b pos e none =
    let nothing : n * a ≡ 0 * b = rw none at e in
    (mul_cancel n 0 a pos (omega arith), none)

-- a power far above the places leaves no number but 0 a size that is small enough
far_up : (n places size power : ℕ) → 2 ^ 64 - 1 ≤ power → places < 2 ^ 63 → size ≤ largest_size →
    n * 10 ^ (power + 6) ≡ size * 10 ^ places → Vanish n size
far_up n places size power far few small e =
    vanish_from_number n size (10 ^ (power + 6)) (10 ^ places) (ten_pos places) e
    (⊎_elim (λ none. none) (λ other. absurd (too_large other)) (cases_eq n 0))
  where
    too_large : n ≢ 0 → ⊥
    too_large other =
        let k : ℕ = power + 6 - places in
        let split : n * 10 ^ (power + 6) ≡ n * 10 ^ k * 10 ^ places =
        ap (λ x. n * 10 ^ x) (omega arith) ∙ sym (times_powers n k places) in
        let same : n * 10 ^ k ≡ size = same_size (n * 10 ^ k) size places (sym split ∙ e) in
        let large : largest_size < n * 10 ^ k = above_largest n k (omega arith) (omega arith) in
        omega arith

at_least_one : {size : ℕ} → size ≢ 0 → 1 ≤ size
at_least_one other = omega arith

few_digits : {digits : ℕ} → digits ≤ largest_size → digits + 1 ≤ 10 ^ 16
few_digits small = omega arith

ten : 0 < 10
ten = omega arith

-- a power far below leaves no size but 0
far_down : (digits zeros places size power : ℕ) → digits ≤ largest_size → zeros ≤ 2 ^ 63 + places →
    2 ^ 64 - 1 ≤ power →
    digits * 10 ^ zeros * 10 ^ 6 ≡ size * 10 ^ (places + power) → Vanish (digits * 10 ^ zeros) size
far_down digits zeros places size power small few far e =
    vanish_from_size (digits * 10 ^ zeros) size (10 ^ 6) (10 ^ (places + power)) (ten_pos 6) e
    (⊎_elim (λ none. none) (λ other. absurd (too_small other)) (cases_eq size 0))
  where
    too_small : size ≢ 0 → ⊥
    too_small other =
        let least : 10 ^ (places + power) ≤ size * 10 ^ (places + power) =
        omega (arith, mul-le-mul_left (10 ^ (places + power)) (at_least_one other)) in
        let joined : digits * 10 ^ zeros * 10 ^ 6 ≡ digits * 10 ^ (zeros + 6) =
        times_powers digits zeros 6 in
        let bound : 10 ^ (zeros + 6) * (digits + 1) ≤ 10 ^ (zeros + 6) * 10 ^ 16 =
        mul-le-mul_left (10 ^ (zeros + 6)) (few_digits small) in
        let power_of : 10 ^ ((zeros + 6) + 16) ≡ 10 ^ (zeros + 6) * 10 ^ 16 =
        pow-add 10 (zeros + 6) 16 in
        let higher : 10 ^ ((zeros + 6) + 16) ≤ 10 ^ (places + power) =
        pow-le-pow_right ten (omega arith) in
        let some : 0 < 10 ^ (zeros + 6) = ten_pos (zeros + 6) in
        omega arith

-- ---- the cap

capped_cases : (power cap : ℕ) → cap ≡ min power (2 ^ 64 - 1) → (cap ≡ power) ⊎
    ((2 ^ 64 - 1 ≤ cap) × (2 ^ 64 - 1 ≤ power))
capped_cases power cap e =
    ⊎_elim (λ below. inl (omega arith)) (λ above. inr (omega arith, omega arith))
    (cases_lt power (2 ^ 64 - 1))

up_from_capped : (n places size power cap : ℕ) → cap ≡ min power (2 ^ 64 - 1) →
    places < 2 ^ 63 → size ≤ largest_size →
    n * 10 ^ (cap + 6) ≡ size * 10 ^ places → n * 10 ^ power * 10 ^ 6 ≡ size * 10 ^ places
up_from_capped n places size power cap is few small e = ⊎_elim
    (λ same. times_powers n power 6 ∙ ap (λ x. n * 10 ^ (x + 6)) (sym same) ∙ e)
    (λ far. times_powers n power 6
    ∙ vanish_equal n size (10 ^ (power + 6)) (10 ^ places)
    (far_up n places size cap far.0 few small e))
    (capped_cases power cap is)

pub up_to_capped : (n places size power cap : ℕ) → cap ≡ min power (2 ^ 64 - 1) → places < 2 ^ 63 →
    size ≤ largest_size →
    n * 10 ^ power * 10 ^ 6 ≡ size * 10 ^ places → n * 10 ^ (cap + 6) ≡ size * 10 ^ places
up_to_capped n places size power cap is few small e =
    let joined : n * 10 ^ (power + 6) ≡ size * 10 ^ places = sym (times_powers n power 6) ∙ e in
    ⊎_elim (λ same. ap (λ x. n * 10 ^ (x + 6)) same ∙ joined)
    (λ far. vanish_equal n size (10 ^ (cap + 6)) (10 ^ places)
    (far_up n places size power far.1 few small joined))
    (capped_cases power cap is)

down_from_capped : (digits zeros places size power cap : ℕ) → cap ≡ min power (2 ^ 64 - 1) →
    digits ≤ largest_size → zeros ≤ 2 ^ 63 + places →
    digits * 10 ^ zeros * 10 ^ 6 ≡ size * 10 ^ (places + cap) →
    digits * 10 ^ zeros * 10 ^ 6 ≡ size * 10 ^ (places + power)
down_from_capped digits zeros places size power cap is small few e = ⊎_elim
    (λ same. e ∙ ap (λ x. size * 10 ^ (places + x)) same)
    (λ far. vanish_equal (digits * 10 ^ zeros) size (10 ^ 6) (10 ^ (places + power))
    (far_down digits zeros places size cap small few far.0 e))
    (capped_cases power cap is)

pub down_to_capped : (digits zeros places size power cap : ℕ) → cap ≡ min power (2 ^ 64 - 1) →
    digits ≤ largest_size → zeros ≤ 2 ^ 63 + places →
    digits * 10 ^ zeros * 10 ^ 6 ≡ size * 10 ^ (places + power) →
    digits * 10 ^ zeros * 10 ^ 6 ≡ size * 10 ^ (places + cap)
down_to_capped digits zeros places size power cap is small few e = ⊎_elim
    (λ same. e ∙ ap (λ x. size * 10 ^ (places + x)) (sym same))
    (λ far. vanish_equal (digits * 10 ^ zeros) size (10 ^ 6) (10 ^ (places + cap))
    (far_down digits zeros places size power small few far.1 e))
    (capped_cases power cap is)

-- ---- the parts' numbers

pub digits_joined : (whole fraction : List ℕ) →
    digits_value_after 10 (digits_value 10 whole) fraction ≡ digits_value 10 (whole ++ fraction)
digits_joined whole fraction = sym (digits_value_after-append 0 whole fraction)

-- a number that is too long has no size
pub no_size_too_long : (n places size power : ℕ) (minus : Bool) → IsTooLong n →
    size ≤ largest_size →
    MatchBool minus (n * 10 ^ 6 ≡ size * 10 ^ (places + power)) (n * 10 ^ power * 10 ^ 6
    ≡ size * 10 ^ places) → ◌≡◌ {A = Option ℕ} None (Some size)
no_size_too_long n places size power true long small e =
    absurd (omega (arith, too_long_size n 6 size (places + power) long e))
no_size_too_long n places size power false long small e =
    absurd (omega (
      arith,
      too_long_size n (power + 6) size places long (sym (times_powers n power 6) ∙ e),
    ))

-- a number that is too long is too long with more digits after it
pub long_before_more : (n : ℕ) (digits : List ℕ) → AllDigits 10 digits → IsTooLong n →
    IsTooLong (digits_value_after 10 n digits)
long_before_more n digits all long = too_long_after n digits long all

-- ---- the answers of `moved` are those of `size_in_millionths`; `minus` is whether the exponent
-- has one, `d` what all digits write

module _ (digits zeros d places power cap : ℕ) (minus : Bool) (number : digits * 10 ^ zeros ≡ d)
    (capped : cap ≡ min power (2 ^ 64 - 1))
    (small : digits ≤ largest_size) (zeros_few : zeros ≤ 2 ^ 63 + places)
    (places_few : places < 2 ^ 63) where
  pub some_below : (r : Option ℕ) → minus ≡ true → IfSome r (λ size. size ≤ largest_size) →
      IfSome r (λ size. digits * 10 ^ zeros * 10 ^ 6 ≡ size * 10 ^ (places + cap)) →
      IfSome r (λ size. MatchBool minus (d * 10 ^ 6 ≡ size * 10 ^ (places + power))
      (d * 10 ^ power * 10 ^ 6 ≡ size * 10 ^ places))
  some_below None is within some = tt
  some_below (Some size) is within some =
      rw (is, ← number) (down_from_capped digits zeros places size power cap capped small zeros_few some)

  pub some_above : (r : Option ℕ) → minus ≡ false → IfSome r (λ size. size ≤ largest_size) →
      IfSome r (λ size. digits * 10 ^ zeros * 10 ^ (cap + 6) ≡ size * 10 ^ places) →
      IfSome r (λ size. MatchBool minus (d * 10 ^ 6 ≡ size * 10 ^ (places + power))
      (d * 10 ^ power * 10 ^ 6 ≡ size * 10 ^ places))
  some_above None is within some = tt
  some_above (Some size) is within some =
      rw (is, ← number) (up_from_capped
      (digits * 10 ^ zeros) places size power cap capped places_few within some)

  pub solved_below : (size : ℕ) → minus ≡ true →
      MatchBool minus (d * 10 ^ 6 ≡ size * 10 ^ (places + power)) (d * 10 ^ power * 10 ^ 6
      ≡ size * 10 ^ places) →
      digits * 10 ^ zeros * 10 ^ 6 ≡ size * 10 ^ (places + cap)
  solved_below size is has =
      let below : digits * 10 ^ zeros * 10 ^ 6 ≡ size * 10 ^ (places + power) =
      rw number (rw is at has) in
      down_to_capped digits zeros places size power cap capped small zeros_few below

  pub solved_above : (size : ℕ) → minus ≡ false → size ≤ largest_size →
      MatchBool minus (d * 10 ^ 6 ≡ size * 10 ^ (places + power)) (d * 10 ^ power * 10 ^ 6
      ≡ size * 10 ^ places) →
      digits * 10 ^ zeros * 10 ^ (cap + 6) ≡ size * 10 ^ places
  solved_above size is within has =
      let above : digits * 10 ^ zeros * 10 ^ power * 10 ^ 6 ≡ size * 10 ^ places =
      rw number (rw is at has) in
      up_to_capped (digits * 10 ^ zeros) places size power cap capped places_few within above
