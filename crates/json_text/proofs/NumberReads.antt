-- A number's machine reads exactly the spellings of numbers: `starts`, `minus_number`, `zero_number`, `int_number`. What may still
-- come inside a number: `digits_spelled`, `digits_from`. Which way a test went: `choose`. A number is ASCII: `number_utf8`.
use Rattle.std.proofs.Common.{◌≡◌, ℕ, true, false, ◌||◌, ◌==◌, List, [], ◌∷◌, ◌++◌, Option, Some, None, inl, inr, refl, sym, ap, ◌∙◌, subst, arith, eqb-true}
use Rattle.std.proofs.Common.{eq-eqb, Bool, append_assoc, append-nil, cond, ◌<◌, suc, ◌+◌, take, Result, Ok, Err}
use Rattle.std.proofs.{lemmas.Str.IsUtf8-append, lemmas.Str.IsUtf8-encode, lemmas.Str.IsUtf8-nil, lemmas.Bool.Decides.nat_tests, lemmas.Bool.cond-true}
use Rattle.std.specs.{Char.is_ascii_digit, Str.IsUtf8}
use Rattle.json_text.specs.Reading.{NumberPart, number_step, may_end, digit_goes, exponent_goes, minus, zero_int, int, point, fraction, exponent, exponent_sign}
use Rattle.json_text.specs.Reading.{exponent_digits}
use Rattle.json_text.specs.Number.{IsNumber, is_digit_above_zero, AreDigits, IsDigits, IsInt, IsFraction, IsSignedDigits, IsExponent, IsMinus}
use Rattle.json_text.specs.Scan.{scan_number, number_on}
use Rattle.json_text.proofs.{Encoded.encode_1, Encoded.low_is_scalar, Following.Digits}

-- which way a test went
pub choose : {P A : Type 0} (b : Bool) (x y z : A) → (b ≡ true → x ≡ z → P) → (b ≡ false → y ≡ z → P) → cond b x y ≡ z → P
choose true x y z f g e = f refl e
choose false x y z f g e = g refl e

-- the bytes take a number from this part to an end
abbrev pub Accepts : NumberPart → List ℕ → Type 0
Accepts part [] = may_end part ≡ true
Accepts part (b ∷ bs) = (p : NumberPart) × (number_step part b ≡ Some p) × Accepts p bs

-- [ frac ] [ exp ]
abbrev AreFractionExponent : List ℕ → Type 0
AreFractionExponent t = (f e : List ℕ) × (t ≡ f ++ e) × IsFraction f × IsExponent e

-- what comes after each part of a number
abbrev Tail : NumberPart → List ℕ → Type 0
Tail minus t = (i u : List ℕ) × (t ≡ i ++ u) × IsInt i × AreFractionExponent u
Tail zero_int t = AreFractionExponent t
Tail int t = (ds u : List ℕ) × (t ≡ ds ++ u) × AreDigits ds × AreFractionExponent u
Tail point t = (ds e : List ℕ) × (t ≡ ds ++ e) × IsDigits ds × IsExponent e
Tail fraction t = (ds e : List ℕ) × (t ≡ ds ++ e) × AreDigits ds × IsExponent e
Tail exponent t = IsSignedDigits t
Tail exponent_sign t = IsDigits t
Tail exponent_digits t = AreDigits t

came : (x p : NumberPart) (bs : List ℕ) → Some x ≡ Some p → Tail p bs → Tail x bs
came x p bs e h = subst (λ q. Tail q bs) (let same : p ≡ x = cc in same) h

step_digit : {P : Type 0} (x p : NumberPart) (b : ℕ) (bs : List ℕ) → digit_goes x b ≡ Some p → (is_ascii_digit b ≡ true → Tail x bs → P) → Tail p bs → P
step_digit x p b bs e f h = choose (is_ascii_digit b) _ _ _ (λ t e. f t (came x p bs e h)) (λ _ e. absurd (cc e)) e

step_exponent : {P : Type 0} (p : NumberPart) (b : ℕ) (bs : List ℕ) (other : Option NumberPart) → exponent_goes b other ≡ Some p
    → ((b == 101) || (b == 69) ≡ true → IsSignedDigits bs → P) → (other ≡ Some p → P) → Tail p bs → P
step_exponent p b bs other e f g h = choose ((b == 101) || (b == 69)) _ _ _ (λ t e. f t (came exponent p bs e h)) (λ _ e. g e) e

-- a point, and after it digits
with_point : (b : ℕ) (bs : List ℕ) → (b == 46) ≡ true → Tail point bs → AreFractionExponent (b ∷ bs)
with_point b bs t h = (b ∷ h.0, h.1, ap (λ u. b ∷ u) h.2, (eqb-true b 46 t, h.3), h.4)

with_exponent : (b : ℕ) (bs : List ℕ) → (b == 101) || (b == 69) ≡ true → IsSignedDigits bs → AreFractionExponent (b ∷ bs)
with_exponent b bs t h = ([], b ∷ bs, refl, tt, (t, h))

tail_step : (part p : NumberPart) (b : ℕ) (bs : List ℕ) → number_step part b ≡ Some p → Tail p bs → Tail part (b ∷ bs)
tail_step minus p b bs e h = choose (b == 48) _ _ _ (λ t e. (b ∷ [], bs, refl, inl (eqb-true b 48 t, refl), came zero_int p bs e h)) (λ f e.
    step_digit int p b bs e (λ t u. (b ∷ u.0, u.1, ap (λ x. b ∷ x) u.2, inr (rw (t, f), u.3), u.4)) h) e
tail_step zero_int p b bs e h = choose (b == 46) _ _ _ (λ t e. with_point b bs t (came point p bs e h)) (λ _ e.
    step_exponent p b bs None e (λ t u. with_exponent b bs t u) (λ e. absurd (cc e)) h) e
tail_step int p b bs e h = choose (b == 46) _ _ _ (λ t e. ([], b ∷ bs, refl, tt, with_point b bs t (came point p bs e h))) (λ _ e.
    step_exponent p b bs (digit_goes int b) e (λ t u. ([], b ∷ bs, refl, tt, with_exponent b bs t u)) (λ e.
    step_digit int p b bs e (λ t u. (b ∷ u.0, u.1, ap (λ x. b ∷ x) u.2, (t, u.3), u.4)) h) h) e
tail_step point p b bs e h = step_digit fraction p b bs e (λ t u. (b ∷ u.0, u.1, ap (λ x. b ∷ x) u.2, (t, u.3), u.4)) h
tail_step fraction p b bs e h = step_exponent p b bs (digit_goes fraction b) e (λ t u. ([], b ∷ bs, refl, tt, (t, u))) (λ e.
    step_digit fraction p b bs e (λ t u. (b ∷ u.0, u.1, ap (λ x. b ∷ x) u.2, (t, u.3), u.4)) h) h
tail_step exponent p b bs e h =
    choose ((b == 45) || (b == 43)) _ _ _ (λ t e. inl (t, came exponent_sign p bs e h)) (λ _ e. step_digit exponent_digits p b bs e (λ t u. inr (t, u)) h) e
tail_step exponent_sign p b bs e h = step_digit exponent_digits p b bs e (λ t u. (t, u)) h
tail_step exponent_digits p b bs e h = step_digit exponent_digits p b bs e (λ t u. (t, u)) h

tail_end : (part : NumberPart) → may_end part ≡ true → Tail part []
tail_end minus e = cc
tail_end zero_int e = ([], [], refl, tt, tt)
tail_end int e = ([], [], refl, tt, ([], [], refl, tt, tt))
tail_end point e = cc
tail_end fraction e = ([], [], refl, tt, tt)
tail_end exponent e = cc
tail_end exponent_sign e = cc
tail_end exponent_digits e = tt

tail_of : (bs : List ℕ) (part : NumberPart) → Accepts part bs → Tail part bs
tail_of [] part h = tail_end part h
tail_of (b ∷ bs) part h = tail_step part h.0 b bs h.1 (tail_of bs h.0 h.2)

number_of : (m i f e bytes : List ℕ) → bytes ≡ m ++ (i ++ (f ++ e)) → IsMinus m → IsInt i → IsFraction f → IsExponent e → IsNumber bytes
number_of m i f e bytes s a b c d =
    record { minus = m; int = i; fraction = f; exponent = e; spelled = s; is_minus = a; is_int = b; is_fraction = c; is_exponent = d }

pub minus_number : (t : List ℕ) → Accepts minus t → IsNumber (45 ∷ t)
minus_number t h = let (i, u, is, whole, (f, e, both, frac, exp)) = tail_of t minus h in
    number_of (45 ∷ []) i f e (45 ∷ t) (ap (λ x. 45 ∷ x) (is ∙ ap (λ x. i ++ x) both)) (refl, refl) whole frac exp

pub zero_number : (t : List ℕ) → Accepts zero_int t → IsNumber (48 ∷ t)
zero_number t h = let (f, e, both, frac, exp) = tail_of t zero_int h in
    number_of [] (48 ∷ []) f e (48 ∷ t) (ap (λ x. 48 ∷ x) both) tt (inl (refl, refl)) frac exp

pub int_number : (b : ℕ) (t : List ℕ) → is_digit_above_zero b ≡ true → Accepts int t → IsNumber (b ∷ t)
int_number b t d h = let (ds, u, is, are, (f, e, both, frac, exp)) = tail_of t int h in
    number_of [] (b ∷ ds) f e (b ∷ t) (ap (λ x. b ∷ x) (is ∙ ap (λ x. ds ++ x) both)) tt (inr (d, are)) frac exp

-- the other way: what a digit and an `e` lead to
digit_steps : (b : ℕ) → is_ascii_digit b ≡ true
    → (number_step int b ≡ Some int) × (number_step fraction b ≡ Some fraction) × (number_step exponent b ≡ Some exponent_digits)
digit_steps b t = (grind (arith, nat_tests), grind (arith, nat_tests), grind (arith, nat_tests))

exponent_steps : (b : ℕ) → (b == 101) || (b == 69) ≡ true → (number_step zero_int b ≡ Some exponent) × (number_step int b ≡ Some exponent)
exponent_steps b t = (grind (arith, nat_tests), grind (arith, nat_tests))

minus_digit : (b : ℕ) → is_digit_above_zero b ≡ true → number_step minus b ≡ Some int
minus_digit b t = grind (arith, nat_tests)

digits_accepted : (part : NumberPart) → ((b : ℕ) → is_ascii_digit b ≡ true → number_step part b ≡ Some part) → (ds t : List ℕ) → AreDigits ds → Accepts part t
    → Accepts part (ds ++ t)
digits_accepted part f [] t d h = h
digits_accepted part f (b ∷ ds) t d h = (part, f b d.0, digits_accepted part f ds t d.1 h)

exponent_only : (ds : List ℕ) → AreDigits ds → Accepts exponent_digits ds
exponent_only [] d = refl
exponent_only (b ∷ ds) d = (exponent_digits, cond-true _ _ _ d.0, exponent_only ds d.1)

signed_accepted : (bs : List ℕ) → IsSignedDigits bs → Accepts exponent bs
signed_accepted [] h = absurd h
signed_accepted (b ∷ []) (inl h) = absurd h.1
signed_accepted (b ∷ c ∷ ds) (inl h) = (exponent_sign, cond-true _ _ _ h.0, (exponent_digits, cond-true _ _ _ h.1.0, exponent_only ds h.1.1))
signed_accepted (b ∷ bs) (inr h) = (exponent_digits, (digit_steps b h.0).2, exponent_only bs h.1)

exponent_accepted : (part : NumberPart) → may_end part ≡ true → ((b : ℕ) → (b == 101) || (b == 69) ≡ true → number_step part b ≡ Some exponent) → (e : List ℕ)
    → IsExponent e → Accepts part e
exponent_accepted part m f [] h = m
exponent_accepted part m f (b ∷ bs) h = (exponent, f b h.0, signed_accepted bs h.1)

point_accepted : (ds e : List ℕ) → IsDigits ds → IsExponent e → Accepts point (ds ++ e)
point_accepted [] e d h = absurd d
point_accepted (b ∷ ds) e d h = let all = digits_accepted fraction (λ b t. (digit_steps b t).1) ds e d.1
    (exponent_accepted fraction refl (λ b t. cond-true _ _ _ t) e h) in (fraction, cond-true _ _ _ d.0, all)

-- a fraction and an exponent, after a whole part
tail_accepted : (part : NumberPart) → may_end part ≡ true → number_step part 46 ≡ Some point
    → ((b : ℕ) → (b == 101) || (b == 69) ≡ true → number_step part b ≡ Some exponent) → (f e : List ℕ) → IsFraction f → IsExponent e → Accepts part (f ++ e)
tail_accepted part m p g [] e i h = exponent_accepted part m g e h
tail_accepted part m p g (b ∷ ds) e i h = (point, ap (λ x. number_step part x) i.0 ∙ p, point_accepted ds e i.1 h)

zero_accepted : (f e : List ℕ) → IsFraction f → IsExponent e → Accepts zero_int (f ++ e)
zero_accepted f e i h = tail_accepted zero_int refl refl (λ b t. (exponent_steps b t).0) f e i h

int_accepted : (ds f e : List ℕ) → AreDigits ds → IsFraction f → IsExponent e → Accepts int (ds ++ (f ++ e))
int_accepted ds f e d i h = digits_accepted int (λ b t. (digit_steps b t).0) ds (f ++ e) d (tail_accepted int refl refl (λ b t. (exponent_steps b t).1) f e i h)

-- how a number begins, and the part that it begins with
pub data Starts : List ℕ → Type 0 where
  with_minus : (t : List ℕ) → Accepts minus t → Starts (45 ∷ t)
  with_zero : (t : List ℕ) → Accepts zero_int t → Starts (48 ∷ t)
  with_digit : (b : ℕ) (t : List ℕ) → is_digit_above_zero b ≡ true → Accepts int t → Starts (b ∷ t)

minus_accepted : (i f e : List ℕ) → IsInt i → IsFraction f → IsExponent e → Accepts minus (i ++ (f ++ e))
minus_accepted [] f e i u h = absurd i
minus_accepted (b ∷ bs) f e (inl i) u h = subst (λ x. Accepts minus (b ∷ (x ++ (f ++ e)))) (sym i.1)
    (zero_int, cond-true _ _ _ (eq-eqb b 48 i.0), zero_accepted f e u h)
minus_accepted (b ∷ bs) f e (inr i) u h = (int, minus_digit b i.0, int_accepted bs f e i.1 u h)

int_starts : (i f e : List ℕ) → IsInt i → IsFraction f → IsExponent e → Starts (i ++ (f ++ e))
int_starts [] f e i u h = absurd i
int_starts (b ∷ bs) f e (inl i) u h = subst (λ x. Starts (x ∷ (bs ++ (f ++ e)))) (sym i.0)
    (subst (λ x. Starts (48 ∷ (x ++ (f ++ e)))) (sym i.1) (with_zero (f ++ e) (zero_accepted f e u h)))
int_starts (b ∷ bs) f e (inr i) u h = with_digit b (bs ++ (f ++ e)) i.0 (int_accepted bs f e i.1 u h)

number_starts : (m i f e : List ℕ) → IsMinus m → IsInt i → IsFraction f → IsExponent e → Starts (m ++ (i ++ (f ++ e)))
number_starts [] i f e m n u h = int_starts i f e n u h
number_starts (b ∷ bs) i f e m n u h = subst (λ x. Starts (x ∷ (bs ++ (i ++ (f ++ e))))) (sym m.0)
    (subst (λ x. Starts (45 ∷ (x ++ (i ++ (f ++ e))))) (sym m.1) (with_minus (i ++ (f ++ e)) (minus_accepted i f e n u h)))

-- each number begins so
pub starts : (bytes : List ℕ) → IsNumber bytes → Starts bytes
starts bytes n = subst Starts (sym n.spelled) (number_starts n.minus n.int n.fraction n.exponent n.is_minus n.is_int n.is_fraction n.is_exponent)

-- the same by what may still come
pub digits_spelled : (part : NumberPart) (spelling : List ℕ) (K : List ℕ → List ℕ → Type 0) (bytes : List ℕ) → Digits part spelling K bytes
    → (tail back : List ℕ) × (bytes ≡ tail ++ back) × Accepts part tail × K (spelling ++ tail) back
digits_spelled part spelling K [] h = ([], [], refl, h.0, subst (λ s. K s []) (sym (append-nil spelling)) h.1)
digits_spelled part spelling K (b ∷ bs) (inl h) = ([], b ∷ bs, refl, h.0, subst (λ s. K s (b ∷ bs)) (sym (append-nil spelling)) h.1)
digits_spelled part spelling K (b ∷ bs) (inr (p, e, h)) = let (tail, back, is, accepts, k) = digits_spelled p (spelling ++ b ∷ []) K bs h in
    (b ∷ tail, back, ap (λ t. b ∷ t) is, (p, e, accepts), subst (λ s. K s back) (append_assoc spelling (b ∷ []) tail) k)

pub digits_end : (part : NumberPart) (spelling : List ℕ) (K : List ℕ → List ℕ → Type 0) (bytes : List ℕ) → may_end part ≡ true → K spelling bytes
    → Digits part spelling K bytes
digits_end part spelling K [] e k = (e, k)
digits_end part spelling K (b ∷ bs) e k = inl (e, k)

pub digits_from : (part : NumberPart) (spelling : List ℕ) (K : List ℕ → List ℕ → Type 0) (tail back : List ℕ) → Accepts part tail → K (spelling ++ tail) back
    → Digits part spelling K (tail ++ back)
digits_from part spelling K [] back h k = digits_end part spelling K back h (subst (λ s. K s back) (append-nil spelling) k)
digits_from part spelling K (b ∷ tail) back h k =
    inr (h.0, h.1, digits_from h.0 (spelling ++ b ∷ []) K tail back h.2 (subst (λ s. K s back) (sym (append_assoc spelling (b ∷ []) tail)) k))

pub goes_ascii : (part : NumberPart) (b : ℕ) (p : NumberPart) → number_step part b ≡ Some p → b < 128
goes_ascii minus b p h = grind (arith, nat_tests)
goes_ascii zero_int b p h = grind (arith, nat_tests)
goes_ascii int b p h = grind (arith, nat_tests)
goes_ascii point b p h = grind (arith, nat_tests)
goes_ascii fraction b p h = grind (arith, nat_tests)
goes_ascii exponent b p h = grind (arith, nat_tests)
goes_ascii exponent_sign b p h = grind (arith, nat_tests)
goes_ascii exponent_digits b p h = grind (arith, nat_tests)

pub ascii_cons : (c : ℕ) (bs : List ℕ) → c < 128 → IsUtf8 bs → IsUtf8 (c ∷ bs)
ascii_cons c bs h u = IsUtf8-append (c ∷ []) bs (subst IsUtf8 (encode_1 c h) (IsUtf8-encode c (low_is_scalar c (omega arith)))) u

pub accepted_utf8 : (part : NumberPart) (bs : List ℕ) → Accepts part bs → IsUtf8 bs
accepted_utf8 part [] h = IsUtf8-nil
accepted_utf8 part (b ∷ bs) (p, e, h) = ascii_cons b bs (goes_ascii part b p e) (accepted_utf8 p bs h)

-- what a scan counts is what the number's parts accept
ends_at : (v : Bool) (m e : ℕ) → ◌≡◌ {A = Result ℕ ℕ} (cond v (Ok m) (Err m)) (Ok e) → (v ≡ true) × (e ≡ m + 0)
ends_at true m e g = (refl, let same : m ≡ e = cc in omega (arith, same))
ends_at false m e g = cc

accepted_on : (b : ℕ) (bs : List ℕ) (part : NumberPart) (m e : ℕ) (x : Option NumberPart) → number_step part b ≡ x
    → ((p : NumberPart) → scan_number p (m + 1) bs ≡ Ok e → (n : ℕ) × (e ≡ (m + 1) + n) × Accepts p (take n bs))
    → number_on x part m (λ p. scan_number p (m + 1) bs) ≡ Ok e → (n : ℕ) × (e ≡ m + n) × Accepts part (take n (b ∷ bs))
accepted_on b bs part m e None s f h = let r = ends_at (may_end part) m e h in (0, r.1, r.0)
accepted_on b bs part m e (Some p) s f h = let (n, g, a) = f p h in (suc n, omega (arith, g), (p, s, a))

accepted : (bs : List ℕ) (part : NumberPart) (m e : ℕ) → scan_number part m bs ≡ Ok e → (n : ℕ) × (e ≡ m + n) × Accepts part (take n bs)
unfolding scan_number
accepted [] part m e h = let r = ends_at (may_end part) m e h in (0, r.1, r.0)
accepted (b ∷ bs) part m e h = accepted_on b bs part m e (number_step part b) refl (λ p g. accepted bs p (m + 1) e g) h

-- a first byte and what is read after it
pub number_utf8 : (part : NumberPart) (n b : ℕ) (bs : List ℕ) → b < 128 → scan_number part 0 bs ≡ Ok n → IsUtf8 (take (1 + n) (b ∷ bs))
number_utf8 part n b bs low h = let (k, e, a) = accepted bs part 0 n h in
    subst (λ k. IsUtf8 (take k (b ∷ bs))) (let f : suc k ≡ 1 + n = omega (arith, e) in f) (ascii_cons b (take k bs) low (accepted_utf8 part (take k bs) a))
