-- One more field, and the values that give no length. Other files cite `one_more` and `list_any-values_of-push` (a field is
-- added), the four `length_of_..` lemmas (exits of the loop over digits), `text_of-utf8`, `text_of-other` and
-- `length_at-small`.
use Rattle.std.proofs.Common.{◌≡◌, ℕ, zero, suc, ◌+◌, ◌<◌, ◌≤◌, Bool, true, false, cond, ◌&&◌, ◌||◌, ◌⊎◌, inl, inr, List, [], ◌∷◌, ◌++◌, map, length}
use Rattle.std.proofs.Common.{take, get_or, Result, Ok, Err, sym, refl, ap, ◌∙◌, arith}
use Rattle.std.specs.Prelude.{IsTrue, ◌↔◌, bytes_eq, nat_le, ◌==◌}
use Rattle.std.specs.List.{list_all, list_any}
use Rattle.std.specs.Char.{is_ascii_digit}
use Rattle.std.specs.Str.Parse.{digits_value}
use Rattle.std.proofs.lemmas.List.{map-append, append-nil}
use Rattle.std.proofs.lemmas.List.Elements.{filter-append}
use Rattle.std.proofs.lemmas.List.Folds.{list_any-append, list_all_more}
use Rattle.std.proofs.lemmas.Bool.{cond-true, cond-false, and_left, and_right, and_from}
use Rattle.std.proofs.lemmas.Bool.Decides.{nat_tests}
use Rattle.std.proofs.lemmas.Slice.Eq.{bytes_eq-Decides}
use Rattle.std.specs.Str.{IsUtf8, is_utf8}
use Rattle.std.proofs.lemmas.Str.{IsUtf8-from_is_utf8, is_utf8-from_IsUtf8}
use Rattle.api_messages.specs.declared.method.Method.{Method}
use Rattle.api_messages.specs.declared.method.Method.TheVariants.{Post, Head, Other}
use Rattle.api_messages.specs.declared.message.Refusal.{Refusal}
use Rattle.api_messages.specs.declared.message.Refusal.TheVariants.{BadHead, TooLarge}
use Rattle.api_messages.specs.Fields.{Pair, Occurrence, absent, once, repeated, is_named, values_of, occurs, occurrence_of, is_length, length_of, length_at}
use Rattle.api_messages.specs.Fields.{text_of}
use Rattle.api_messages.specs.Reading.{and_also}

same_test : (b c : Bool) → (b ≡ true → c ≡ true) → (c ≡ true → b ≡ true) → b ≡ c
same_test true true f g = refl
same_test true false f g = sym (f refl)
same_test false true f g = g refl
same_test false false f g = refl

or-false : (b : Bool) → (b || false) ≡ b
or-false true = refl
or-false false = refl

-- a test of an equation is the one that computes it
pub test_is_bytes_eq : (b : Bool) (xs ys : List ℕ) → (IsTrue b ↔ (xs ≡ ys)) → b ≡ bytes_eq xs ys
test_is_bytes_eq b xs ys h =
    let d = bytes_eq-Decides xs ys in
    same_test b (bytes_eq xs ys) (λ t. d.1 (h.0 t)) (λ t. h.1 (d.0 t))

values_of-push : (name : List ℕ) (pairs : List Pair) (p : Pair)
    → values_of name (pairs ++ p ∷ []) ≡ values_of name pairs ++ cond (is_named name p.0) (p.1 ∷ []) []
values_of-push name pairs p =
    ap (map (λ (q : Pair). q.1)) (filter-append (λ (q : Pair). is_named name q.0) pairs (p ∷ []))
    ∙ map-append (λ (q : Pair). q.1) _ _
    ∙ ap (λ l. values_of name pairs ++ l) (by_test (is_named name p.0))
  where
    by_test : (t : Bool) → map (λ (q : Pair). q.1) (cond t (p ∷ []) []) ≡ cond t (p.1 ∷ []) []
    by_test true = refl
    by_test false = refl

occurs-push : (values : List (List ℕ)) (v : List ℕ) → occurs (values ++ v ∷ []) ≡ and_also (occurs values) v
occurs-push [] v = refl
occurs-push (a ∷ []) v = refl
occurs-push (a ∷ b ∷ rest) v = refl

occurrence_of-push : (name : List ℕ) (pairs : List Pair) (p : Pair)
    → occurrence_of name (pairs ++ p ∷ []) ≡ cond (is_named name p.0) (and_also (occurrence_of name pairs) p.1) (occurrence_of name pairs)
occurrence_of-push name pairs p = ap occurs (values_of-push name pairs p) ∙ by_test (is_named name p.0)
  where
    by_test : (t : Bool)
        → occurs (values_of name pairs ++ cond t (p.1 ∷ []) []) ≡ cond t (and_also (occurs (values_of name pairs)) p.1) (occurs (values_of name pairs))
    by_test true = occurs-push _ _
    by_test false = ap occurs (append-nil (values_of name pairs))

pub list_any-values_of-push : (test : List ℕ → Bool) (name : List ℕ) (pairs : List Pair) (p : Pair)
    → list_any test (values_of name (pairs ++ p ∷ [])) ≡ (list_any test (values_of name pairs) || (is_named name p.0 && test p.1))
list_any-values_of-push test name pairs p =
    ap (list_any test) (values_of-push name pairs p)
    ∙ list_any-append test (values_of name pairs) _
    ∙ ap (λ b. list_any test (values_of name pairs) || b) (by_test (is_named name p.0) (test p.1))
  where
    by_test : (t s : Bool) → list_any test (cond t (p.1 ∷ []) []) ≡ (t && test p.1)
    by_test true s = or-false (test p.1)
    by_test false s = refl

pub one_more : (name : List ℕ) (pairs : List Pair) (p : Pair) (old new : Occurrence) (t : Bool)
    → old ≡ occurrence_of name pairs → t ≡ is_named name p.0 → new ≡ cond t (and_also old p.1) old
    → new ≡ occurrence_of name (pairs ++ p ∷ [])
one_more name pairs p old new t before test after =
    after
    ∙ ap (λ b. cond b (and_also old p.1) old) test
    ∙ ap (λ o. cond (is_named name p.0) (and_also o p.1) o) before
    ∙ sym (occurrence_of-push name pairs p)

abbrev refuses : Refusal → Result ℕ Refusal
refuses why = Err why

abbrev gives : ℕ → Result ℕ Refusal
gives n = Ok n

no_length : (v : List ℕ) → is_length v ≡ false → refuses BadHead ≡ length_of v
unfolding length_of
no_length v e = sym (cond-false _ _ _ e)

-- a value with no digit, or with more than ten
length_of_size : (v : List ℕ) → (nat_le 1 (length v) && nat_le (length v) 10) ≡ false → refuses BadHead ≡ length_of v
unfolding is_length
length_of_size v e = no_length v (and_left _ _ e)

-- a byte that is no digit
pub length_of_other : (v : List ℕ) → list_all is_ascii_digit v ≡ false → refuses BadHead ≡ length_of v
unfolding is_length
length_of_other v e = no_length v (and_right _ _ e)

some_length : (v : List ℕ) → 1 ≤ length v → length v ≤ 10 → list_all is_ascii_digit v ≡ true → is_length v ≡ true
unfolding is_length
some_length v some few digits =
    let size : (nat_le 1 (length v) && nat_le (length v) 10) ≡ true = grind (arith, nat_tests) in
    and_from _ _ size digits

length_of_sound : (v : List ℕ) → is_length v ≡ true
    → length_of v ≡ cond (nat_le (digits_value 10 v) 1048576) (Ok (digits_value 10 v)) (Err TooLarge)
unfolding length_of
length_of_sound v e = cond-true _ _ _ e

pub length_of_large : (v : List ℕ) (why : Refusal) → 1 ≤ length v → length v ≤ 10 → 1048576 < digits_value 10 v
    → why ≡ cond (list_all is_ascii_digit v) TooLarge BadHead → refuses why ≡ length_of v
length_of_large v why some few large is = by_test (list_all is_ascii_digit v) refl
  where
    by_test : (t : Bool) → list_all is_ascii_digit v ≡ t → refuses why ≡ length_of v
    by_test true digits =
        let over : nat_le (digits_value 10 v) 1048576 ≡ false = grind (arith, nat_tests) in
        ap refuses (is ∙ cond-true _ _ _ digits) ∙ sym (length_of_sound v (some_length v some few digits) ∙ cond-false _ _ _ over)
    by_test false other = ap refuses (is ∙ cond-false _ _ _ other) ∙ length_of_other v other

pub length_of_digits : (v : List ℕ) (n : ℕ) → 1 ≤ length v → length v ≤ 10 → list_all is_ascii_digit v ≡ true → n ≡ digits_value 10 v → n ≤ 1048576
    → gives n ≡ length_of v
length_of_digits v n some few digits value small =
    let le : nat_le (digits_value 10 v) 1048576 ≡ true = grind (arith, nat_tests) in
    ap gives value ∙ sym (length_of_sound v (some_length v some few digits) ∙ cond-true _ _ _ le)

pub text_of-utf8 : (v : List ℕ) → IsUtf8 v → v ≡ text_of v
unfolding text_of
text_of-utf8 v utf8 = sym (cond-true _ _ _ (is_utf8-from_IsUtf8 v utf8))

pub text_of-other : (v : List ℕ) → ¬ (IsUtf8 v) → [] ≡ text_of v
unfolding text_of
text_of-other v other = by_test (is_utf8 v) (IsUtf8-from_is_utf8 v)
  where
    by_test : (t : Bool) → (t ≡ true → IsUtf8 v) → [] ≡ cond t v []
    by_test true is = absurd (other (is refl))
    by_test false is = refl

pub list_all_here : {X : Type 0} (test : X → Bool) (xs : List X) (i : ℕ) (d : X) → i < length xs → list_all test (take i xs) ≡ true
    → test (get_or xs i d) ≡ true → list_all test (take (i + 1) xs) ≡ true
list_all_here test xs i d inside before here = list_all_more test xs i d inside ∙ and_from _ _ before here

pub list_all_fails : {X : Type 0} (test : X → Bool) (xs : List X) (i : ℕ) (d : X) → i < length xs → test (get_or xs i d) ≡ false → list_all test xs ≡ false
list_all_fails test [] i d inside fails = absurd (omega arith)
list_all_fails test (x ∷ xs) zero d inside fails = and_left _ _ fails
list_all_fails test (x ∷ xs) (suc i) d inside fails = and_right _ _ (list_all_fails test xs i d (omega arith) fails)

pub length_of_size_cases : (v : List ℕ) (t : Bool) → t ≡ (length v == 0) → (t ≡ true) ⊎ ((t ≡ false) × (10 < length v))
    → refuses BadHead ≡ length_of v
length_of_size_cases v t test (inl empty) =
    let none : length v ≡ 0 = grind (arith, nat_tests) in
    length_of_size v (grind (arith, nat_tests))
length_of_size_cases v t test (inr large) =
    let many : 10 < length v = large.1 in
    length_of_size v (grind (arith, nat_tests))

length_of-small : (v : List ℕ) (n : ℕ) → length_of v ≡ Ok n → n ≤ 1048576
unfolding length_of
length_of-small v n e = by_test (is_length v) (nat_le (digits_value 10 v) 1048576) (λ small. grind (arith, nat_tests)) e
  where
    by_test : (a t : Bool) → (t ≡ true → digits_value 10 v ≤ 1048576)
        → cond a (cond t (gives (digits_value 10 v)) (refuses TooLarge)) (Err BadHead) ≡ Ok n → n ≤ 1048576
    by_test true true small e = let same : digits_value 10 v ≡ n = cc in let few = small refl in omega arith
    by_test true false small e = cc
    by_test false true small e = cc
    by_test false false small e = cc

pub length_at-small : (method : Method) (o : Occurrence) (n : ℕ) → length_at method o ≡ Ok n → n ≤ 1048576
length_at-small Post absent n e = cc
length_at-small Head absent n e = let same : 0 ≡ n = cc in omega arith
length_at-small Other absent n e = let same : 0 ≡ n = cc in omega arith
length_at-small method (once v) n e = length_of-small v n e
length_at-small method repeated n e = cc
