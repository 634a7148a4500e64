-- Numbers times powers of ten: how trailing zeros, a digit more, and powers on both sides of an
-- equation act
use Rattle.std.proofs.Common.{◌≡◌, ◌≢◌, ℕ, zero, suc, ◌+◌, ◌-◌, ◌*◌, ◌/◌, ◌%◌, ◌^◌, ◌<◌, ◌≤◌, List, [], ◌∷◌, ◌++◌, length, take, drop}
use Rattle.std.proofs.Common.{get_or, refl, sym, subst, ◌∙◌, ap, arith, ⊎_elim, Option, Some, None}
use Rattle.std.proofs.Math.Nat.{pow-le-pow_right, one-le-pow, mul-div_cancel, mul-le-mul_left}
use Rattle.std.proofs.lemmas.Bool.{cases_lt, cases_eq}
use Rattle.std.proofs.lemmas.Bool.Decides.{nat_tests}
use Rattle.std.proofs.lemmas.Nat.{pow-add}
use Rattle.std.proofs.lemmas.List.{take_more, take-append-drop}
use Rattle.std.proofs.lemmas.Option.{IfSome_then}
use Rattle.std.specs.Option.{IfSome, IfNone}
use Rattle.std.specs.Char.{digit_value}
use Rattle.std.specs.Str.Parse.{AllDigits, digits_value_after}
use Rattle.numeric_keys.specs.Number.{largest_size}
use Rattle.numeric_keys.specs.Significand.{IsTooLong}

pub ten_pos : (k : ℕ) → 0 < 10 ^ k
ten_pos k = one-le-pow k 10 (omega arith)

pub mul_cancel : (a b k : ℕ) → 0 < k → a * k ≡ b * k → a ≡ b
mul_cancel a b k pos e = sym (mul-div_cancel a pos) ∙ ap (λ n. n / k) e ∙ mul-div_cancel b pos

-- a product with a positive number is not below the other factor
pub le_times : (a k : ℕ) → 0 < k → a ≤ a * k
le_times a k pos = omega (arith, mul-le-mul_left a pos)

-- a * 10 ^ i * 10 ^ j, joined
pub times_powers : (a i j : ℕ) → a * 10 ^ i * 10 ^ j ≡ a * 10 ^ (i + j)
times_powers a i j = rw (pow-add 10 i j) (omega arith)

-- ---- a digit more

pub times_ten : (a z : ℕ) → a * 10 ^ (z + 1) ≡ a * 10 ^ z * 10
times_ten a z = rw (pow-add 10 z 1) (omega arith)

pub above_largest : (n power : ℕ) → 0 < n → 16 ≤ power → largest_size < n * 10 ^ power
above_largest n power some high =
    let least : 10 ^ 16 ≤ 10 ^ power = pow-le-pow_right (omega arith) high in
    let scaled : 10 ^ power ≤ n * 10 ^ power = omega (arith, mul-le-mul_left (10 ^ power) some) in
    omega arith

pub too_long_now : (n digit : ℕ) → 0 < digit → digit < 10 → largest_size < n * 10 + digit →
    IsTooLong (n * 10 + digit)
too_long_now n digit some small large = record {
  digits = n * 10 + digit;
  zeros = 0;
  whole = omega arith;
  last = omega arith;
  large = large;
}

too_long_more : (n digit : ℕ) → IsTooLong n → digit < 10 → IsTooLong (n * 10 + digit)
too_long_more n digit h small = ⊎_elim nothing some (cases_eq digit 0)
  where
    nothing : digit ≡ 0 → IsTooLong (n * 10 + digit)
    nothing e = record {
      digits = h.digits;
      zeros = h.zeros + 1;
      whole = rw (times_ten h.digits h.zeros, ← h.whole) (omega arith);
      last = h.last;
      large = h.large;
    }

    some : digit ≢ 0 → IsTooLong (n * 10 + digit)
    some other =
        let more : h.digits ≤ h.digits * 10 ^ h.zeros =
        le_times h.digits (10 ^ h.zeros) (ten_pos h.zeros) in
        too_long_now n digit (omega arith) small (omega (arith, h.whole, h.large))

pub too_long_after : (n : ℕ) (digits : List ℕ) → IsTooLong n → AllDigits 10 digits →
    IsTooLong (digits_value_after 10 n digits)
too_long_after n [] h all = h
too_long_after n (c ∷ cs) h all =
    too_long_after (n * 10 + digit_value c) cs (too_long_more n (digit_value c) h all.0) all.1

pub digits_value_after-append : (n : ℕ) (xs ys : List ℕ) →
    digits_value_after 10 n (xs ++ ys) ≡ digits_value_after 10 (digits_value_after 10 n xs) ys
digits_value_after-append n [] ys = refl
digits_value_after-append n (x ∷ xs) ys = digits_value_after-append (n * 10 + digit_value x) xs ys

digits_value_after_more : (n : ℕ) (digits : List ℕ) (i : ℕ) → i < length digits →
    digits_value_after 10 n (take (i + 1) digits) ≡ digits_value_after 10 n
    (take i digits) * 10 + digit_value (get_or digits i 0)
digits_value_after_more n digits i h =
    rw (take_more digits i 0 h)
    (digits_value_after-append n (take i digits) (get_or digits i 0 ∷ []))

digit_value_is : (c : ℕ) → digit_value c < 10 → (48 ≤ c) × (c ≤ 57) × (digit_value c ≡ c - 48)
digit_value_is c h = grind (arith, nat_tests)

AllDigits-at : (digits : List ℕ) (i : ℕ) → AllDigits 10 digits → i < length digits →
    digit_value (get_or digits i 0) < 10
AllDigits-at [] i all h = absurd (omega (arith, h))
AllDigits-at (c ∷ cs) zero all h = all.0
AllDigits-at (c ∷ cs) (suc i) all h = AllDigits-at cs i all.1 (omega arith)

pub digit_at : (digits : List ℕ) (i : ℕ) → AllDigits 10 digits → i < length digits →
    (48 ≤ get_or digits i 0) × (get_or digits i 0 ≤ 57) ×
    (digit_value (get_or digits i 0) ≡ get_or digits i 0 - 48)
digit_at digits i all h = digit_value_is (get_or digits i 0) (AllDigits-at digits i all h)

AllDigits-drop : (digits : List ℕ) (i : ℕ) → AllDigits 10 digits → AllDigits 10 (drop i digits)
AllDigits-drop [] zero all = tt
AllDigits-drop [] (suc i) all = tt
AllDigits-drop (c ∷ cs) zero all = all
AllDigits-drop (c ∷ cs) (suc i) all = AllDigits-drop cs i all.1

-- if the digits up to one of them write a number that is too long, so do all of them
pub too_long_whole : (n : ℕ) (digits : List ℕ) (i : ℕ) → AllDigits 10 digits →
    IsTooLong (digits_value_after 10 n (take i digits)) →
    IsTooLong (digits_value_after 10 n digits)
too_long_whole n digits i all h =
    let P : List ℕ → Type 0 = λ whole. IsTooLong (digits_value_after 10 n whole) in
    subst P (take-append-drop i digits)
    (rw digits_value_after-append
    (too_long_after _ (drop i digits) h (AllDigits-drop digits i all)))

-- the same for the code's loop; `number` is what the digits so far write
module _ (n : ℕ) (digits : List ℕ) (i number : ℕ) (all : AllDigits 10 digits)
    (h : i < length digits) (read : number ≡ digits_value_after 10 n (take i digits)) where
  pub number_goes_on : (next : ℕ) → next ≡ number * 10 + (get_or digits i 0 - 48) →
      next ≡ digits_value_after 10 n (take (i + 1) digits)
  number_goes_on next e =
      rw (e, read, ← (digit_at digits i all h).2) (sym (digits_value_after_more n digits i h))

  pub too_long_goes_on : IsTooLong (number * 10 + (get_or digits i 0 - 48)) →
      IsTooLong (digits_value_after 10 n digits)
  too_long_goes_on long =
      too_long_whole n digits (i + 1) all
      (rw (number_goes_on (number * 10 + (get_or digits i 0 - 48)) refl) at long)

-- ---- powers on both sides

pub no_size_but_zero : (digits zeros up size down : ℕ) → digits ≡ 0 →
    digits * 10 ^ zeros * 10 ^ up ≡ size * 10 ^ down → size ≡ 0
no_size_but_zero digits zeros up size down none e =
    let joined : digits * 10 ^ (zeros + up) ≡ size * 10 ^ down = sym (times_powers digits zeros up)
    ∙ e in
    let nothing : 0 * 10 ^ (zeros + up) ≡ size * 10 ^ down = rw none at joined in
    mul_cancel size 0 (10 ^ down) (ten_pos down) (omega arith)

-- digits that do not end in a zero, with fewer zeros than are taken away
no_size_below : (digits zeros up size down : ℕ) → 0 < digits % 10 → up + zeros < down →
    digits * 10 ^ zeros * 10 ^ up ≡ size * 10 ^ down → ⊥
no_size_below digits zeros up size down last short e =
    let k : ℕ = down - (zeros + up) - 1 in
    let more : down ≡ (k + 1) + (zeros + up) = omega arith in
    let split : size * 10 ^ down ≡ (size * 10 ^ k * 10) * 10 ^ (zeros + up) =
    ap (λ n. size * 10 ^ n) more ∙ sym (times_powers size (k + 1) (zeros + up))
    ∙ ap (λ n. n * 10 ^ (zeros + up)) (times_ten size k) in
    let same : digits ≡ size * 10 ^ k * 10 =
    mul_cancel digits (size * 10 ^ k * 10) (10 ^ (zeros + up)) (ten_pos (zeros + up))
    (sym (times_powers digits zeros up) ∙ e ∙ split) in
    omega arith

size_is : (digits zeros up down : ℕ) → down ≤ up + zeros →
    digits * 10 ^ zeros * 10 ^ up ≡ digits * 10 ^ (up + zeros - down) * 10 ^ down
size_is digits zeros up down h =
    times_powers digits zeros up ∙ ap (λ n. digits * 10 ^ n) (omega arith)
    ∙ sym (times_powers digits (up + zeros - down) down)

pub same_size : (a b down : ℕ) → a * 10 ^ down ≡ b * 10 ^ down → a ≡ b
same_size a b down e = mul_cancel a b (10 ^ down) (ten_pos down) e

pub too_long_size : (n up size down : ℕ) → IsTooLong n → n * 10 ^ up ≡ size * 10 ^ down →
    largest_size < size
too_long_size n up size down h e = ⊎_elim
    (λ short. absurd (no_size_below h.digits h.zeros up size down h.last short
    (ap (λ m. m * 10 ^ up) (sym h.whole) ∙ e)))
    (λ enough.
    let same : size ≡ h.digits * 10 ^ (up + h.zeros - down) =
    same_size size (h.digits * 10 ^ (up + h.zeros - down)) down (sym e
    ∙ ap (λ m. m * 10 ^ up) h.whole ∙ size_is h.digits h.zeros up down enough) in
    let more : h.digits ≤ h.digits * 10 ^ (up + h.zeros - down) =
    le_times h.digits (10 ^ (up + h.zeros - down)) (ten_pos (up + h.zeros - down)) in
    omega (arith, h.large))
    (cases_lt (up + h.zeros) down)

-- what `moved` answers, over plain numbers: `every` in its three cases
pub none_below : (digits zeros up down size : ℕ) → 0 < digits % 10 → up + zeros < down →
    digits * 10 ^ zeros * 10 ^ up ≡ size * 10 ^ down →
    ◌≡◌ {A = Option ℕ} None (Some size)
none_below digits zeros up down size last short e =
    absurd (no_size_below digits zeros up size down last short e)

pub some_moved : (digits zeros up down : ℕ) (r : Option ℕ) → down ≤ up + zeros →
    IfSome r (λ size. size ≡ digits * 10 ^ (up + zeros - down)) →
    IfSome r (λ size. digits * 10 ^ zeros * 10 ^ up ≡ size * 10 ^ down)
some_moved digits zeros up down r enough some =
    IfSome_then r some (λ size is. rw is (size_is digits zeros up down enough))

pub every_moved : (digits zeros up down size : ℕ) (r : Option ℕ) → down ≤ up + zeros →
    size ≤ largest_size →
    IfSome r (λ size. size ≡ digits * 10 ^ (up + zeros - down)) →
    IfNone r (largest_size < digits * 10 ^ (up + zeros - down)) →
    digits * 10 ^ zeros * 10 ^ up ≡ size * 10 ^ down → r ≡ Some size
every_moved digits zeros up down size None enough within some none e =
    let same : digits * 10 ^ (up + zeros - down) ≡ size =
    same_size _ _ down (sym (size_is digits zeros up down enough) ∙ e) in
    absurd (omega (arith, none))
every_moved digits zeros up down size (Some found) enough within some none e =
    let same : digits * 10 ^ (up + zeros - down) ≡ size =
    same_size _ _ down (sym (size_is digits zeros up down enough) ∙ e) in
    ap Some (some ∙ same)
