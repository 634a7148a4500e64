-- Whole numbers. A spelling that is not parsed is too large: `too_large`. api_wire cites `within_limits`, `count_there`.
use Rattle.std.proofs.Common.{◌≡◌, ℕ, ◌<◌, ◌≤◌, ◌^◌, Bool, true, false, ◌&&◌, ◌||◌, ◌==◌, List, [], ◌∷◌, length}
use Rattle.std.proofs.Common.{Option, Some, None, Result, Err, sym, refl, ap, ◌∙◌, arith}
use Rattle.std.specs.Prelude.{nat_le, option_and_then, is_some, if◌then◌else◌}
use Rattle.std.specs.List.{list_all}
use Rattle.std.specs.Char.{is_ascii_digit}
use Rattle.std.specs.Str.Parse.{digits_value, ParsesUnsigned}
use Rattle.std.proofs.lemmas.Bool.{false≢true, and_parts}
use Rattle.std.proofs.lemmas.Bool.Decides.{nat_tests}
use Rattle.std.proofs.lemmas.Str.Parse.{IsDigitsTest, IsNumeralModel, numerals_by_value, parse_digits}
use Rattle.json_text.specs.Number.{is_digit_above_zero}
use Rattle.json_text.specs.Tree.{Tree, number, Members}
use Rattle.json_text.specs.Checks.{else_fault}
use Rattle.api_replies.specs.declared.cause.Cause.TheVariants as cause
use Rattle.api_replies.specs.declared.member.Member.{Member}
use Rattle.api_members.specs.declared.asked.Syntax.TheVariants as syntax
use Rattle.api_members.specs.declared.asked.Asked.TheVariants.{Required}
use Rattle.api_members.specs.Given.{given}
use Rattle.api_members.specs.Count.{is_int, whole_number, if_within, count_of, count_given}
use Rattle.api_members.specs.Refusal.{value_check, IsSoundMember}

abbrev AreTested : List ℕ → Type 0
AreTested ds = list_all is_ascii_digit ds ≡ true

one_digit : (c : ℕ) → is_ascii_digit c ≡ true → (48 ≤ c) × (c ≤ 57)
one_digit c is = (grind (arith, nat_tests), grind (arith, nat_tests))

digit_tested : (c : ℕ) → 48 ≤ c → c ≤ 57 → is_ascii_digit c ≡ true
digit_tested c low high = grind (arith, nat_tests)

tells : IsDigitsTest AreTested
tells = record {
  empty = refl;
  parts = λ c cs e. let k = and_parts (is_ascii_digit c) (list_all is_ascii_digit cs) e in (one_digit c k.0, k.1);
  more = λ c cs k e. rw (digit_tested c k.0 k.1, e) refl;
}

own : IsNumeralModel AreTested (digits_value 10)
own = numerals_by_value AreTested tells

-- such a spelling has digits alone
are_digits : (bs : List ℕ) → is_int bs ≡ true → AreTested bs
are_digits [] is = absurd (false≢true is)
are_digits (b ∷ []) is = grind (arith, nat_tests)
are_digits (b ∷ c ∷ bs) is = by (length (c ∷ bs) == 0) (list_all is_ascii_digit (c ∷ bs)) (grind (arith, nat_tests)) is
  where
    by : (alone others : Bool) → alone ≡ false → ((b == 48) && alone) || (is_digit_above_zero b && others) ≡ true
        → is_ascii_digit b && others ≡ true
    by alone others more e = grind (arith, nat_tests)

some_digits : (bs : List ℕ) → is_int bs ≡ true → 0 < length bs
some_digits [] is = absurd (false≢true is)
some_digits (b ∷ bs) is = omega arith

pub too_large : {E : Type 0} (least most : ℕ) (bs : List ℕ) (f : E) (r : Result ℕ E) → is_int bs ≡ true → most < 2 ^ 64 → ParsesUnsigned 64 10 bs r
    → r ≡ Err f → None ≡ option_and_then (if_within least most) (whole_number bs)
too_large least most bs f r is fits reads e =
    let read = rw e at (parse_digits own 64 bs r reads (are_digits bs is)) in
    rw is (beyond (digits_value 10 bs) (λ small. read (some_digits bs is, small)))
  where
    beyond : (n : ℕ) → (n < 2 ^ 64 → ⊥) → None ≡ if_within least most n
    beyond n over = grind (arith, nat_tests)

in_limits : (least most n m : ℕ) → if_within least most n ≡ Some m → (least ≤ m) × (m ≤ most)
in_limits least most n m e = by (nat_le least n) (nat_le n most) (λ t. grind (arith, nat_tests)) (λ t. grind (arith, nat_tests)) e
  where
    by : (a b : Bool) → (a ≡ true → least ≤ n) → (b ≡ true → n ≤ most) → (if a && b then Some n else None) ≡ Some m → (least ≤ m) × (m ≤ most)
    by true true low high is = let same : n ≡ m = cc in rw (sym same) (low refl, high refl)
    by true false low high is = absurd (cc is)
    by false b low high is = absurd (cc is)

limits_of : (least most : ℕ) (v : Option ℕ) (m : ℕ) → option_and_then (if_within least most) v ≡ Some m → (least ≤ m) × (m ≤ most)
limits_of least most None m e = absurd (cc e)
limits_of least most (Some n) m e = in_limits least most n m e

limits_in : (least most : ℕ) (tree : Tree) (m : ℕ) → count_of least most tree ≡ Some m → (least ≤ m) × (m ≤ most)
limits_in least most (number spelling) m e = limits_of least most (whole_number spelling) m e
limits_in least most _ m e = absurd (cc e)

-- a number that is given is within its limits
pub within_limits : (least most : ℕ) (v : Option Tree) (m : ℕ) → count_given least most v ≡ Some m → (least ≤ m) × (m ≤ most)
within_limits least most None m e = absurd (cc e)
within_limits least most (Some tree) m e = limits_in least most tree m e

there : (least most : ℕ) (m : Member) (v : Option Tree) → (value_check (else_fault ⊥ (cause.Required m)) (syntax.Count least most) m v).holds
    → count_given least most v ≡ None → ⊥
there least most m None sound none = absurd sound
there least most m (Some tree) sound none =
    let is_none : is_some (count_of least most tree) ≡ false = ap is_some none in
    false≢true (sym is_none ∙ sound)

-- a required number is given
pub count_there : (m : Member) (ms : Members) (least most : ℕ) → IsSoundMember (Required m (syntax.Count least most)) ms
    → count_given least most (given m ms) ≡ None → ⊥
count_there m ms least most sound = there least most m (given m ms) sound
