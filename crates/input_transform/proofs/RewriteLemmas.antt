-- Where a string ends: `inside_end`, `inside_cut`. Where a name ends: `mark_of`.
use Rattle.std.proofs.Common.{◌≡◌, ◌≢◌, ℕ, ◌+◌, ◌-◌, ◌<◌, Bool, true, false, cond, ◌==◌, ◌||◌, List, [], ◌∷◌, ◌++◌, length, get_or, take, drop, inl, inr, Some, None, refl, sym, ap, ◌∙◌, subst, arith, append_assoc}
use Rattle.std.specs.Option.{option_map}
use Rattle.std.specs.List.{list_all}
use Rattle.std.proofs.lemmas.List.{append-nil, append_cancel_left, take_more, take-append-drop, drop_more, take_rest}
use Rattle.std.proofs.lemmas.Option.{same_Some, none-some}
use Rattle.std.proofs.lemmas.Bool.{false≢true, cond-true, cond-false, cases_Bool, eq-eqb, and_parts}
use Rattle.std.proofs.lemmas.Bool.Decides.{nat_tests}
use Rattle.input_transform.specs.Names.{Source, Paths, is_name_byte, names, first_named, source_named}
use Rattle.input_transform.specs.Template.{before_mark}
use Rattle.input_transform.specs.Letters.{Token, plain, string, name, is_inside, colon_next, token_given, token_letters, IsToken, BeginsToken, given, letters, AreTokens}

inside_tail : (b : ℕ) (s : List ℕ) → is_inside false (b ∷ s) ≡ true → ((b == 34) ≡ false) × (is_inside (b == 92) s ≡ true)
inside_tail b s h = elim (cases_Bool (b == 34)) [
  | inl t ↦ absurd (false≢true (sym (cond-true (b == 34) false (is_inside (b == 92) s) t) ∙ h))
  | inr f ↦ (f, sym (cond-false (b == 34) false (is_inside (b == 92) s) f) ∙ h)
]

pub inside_end : (e : Bool) (s x : List ℕ) → is_inside e s ≡ true → is_inside e (s ++ 34 ∷ x) ≡ false
inside_end false [] x h = refl
inside_end true [] x h = absurd (false≢true h)
inside_end true (b ∷ s) x h = inside_end false s x h
inside_end false (b ∷ s) x h = let p = inside_tail b s h in
    cond-false (b == 34) false (is_inside (b == 92) (s ++ 34 ∷ x)) p.0 ∙ inside_end (b == 92) s x p.1

pub inside_cut : (e : Bool) (a b x y : List ℕ) → is_inside e a ≡ true → is_inside e b ≡ true → a ++ 34 ∷ x ≡ b ++ 34 ∷ y → (a ≡ b) × (x ≡ y)
inside_cut e [] [] x y h k p = (refl, cc)
inside_cut true [] (d ∷ b) x y h k p = absurd (false≢true h)
inside_cut false [] (d ∷ b) x y h k p = let same : d ≡ 34 = cc in absurd (false≢true (sym (inside_tail d b k).0 ∙ eq-eqb d 34 same))
inside_cut true (c ∷ a) [] x y h k p = absurd (false≢true k)
inside_cut false (c ∷ a) [] x y h k p = let same : c ≡ 34 = cc in absurd (false≢true (sym (inside_tail c a h).0 ∙ eq-eqb c 34 same))
inside_cut true (c ∷ a) (d ∷ b) x y h k p =
    let head : c ≡ d = cc in let rest : a ++ 34 ∷ x ≡ b ++ 34 ∷ y = cc in let q = inside_cut false a b x y h k rest in (let same = q.0 in cc, q.1)
inside_cut false (c ∷ a) (d ∷ b) x y h k p =
    let head : c ≡ d = cc in let rest : a ++ 34 ∷ x ≡ b ++ 34 ∷ y = cc in
    let other = subst (λ z. is_inside (z == 92) b ≡ true) (sym head) (inside_tail d b k).1 in
    let q = inside_cut (c == 92) a b x y (inside_tail c a h).1 other rest in (let same = q.0 in cc, q.1)

-- one byte more of a string
pub inside_more : (bs : List ℕ) (n : ℕ) (e f : Bool) → n < length bs → ((more : List ℕ) → is_inside false (take n bs ++ more) ≡ is_inside e more)
    → ((more : List ℕ) → is_inside e (get_or bs n 0 ∷ more) ≡ is_inside f more)
    → (more : List ℕ) → is_inside false (take (n + 1) bs ++ more) ≡ is_inside f more
inside_more bs n e f within h step more =
    ap (λ t. is_inside false (t ++ more)) (take_more bs n 0 within) ∙ ap (is_inside false) (append_assoc (take n bs) (get_or bs n 0 ∷ []) more)
    ∙ h (get_or bs n 0 ∷ more) ∙ step more

pub step_plain : (b : ℕ) (more : List ℕ) → (b == 34) ≡ false → is_inside false (b ∷ more) ≡ is_inside (b == 92) more
step_plain b more f = cond-false (b == 34) false (is_inside (b == 92) more) f

-- the string so far may end here
pub inside_here : (bs : List ℕ) → ((more : List ℕ) → is_inside false (bs ++ more) ≡ is_inside false more) → is_inside false bs ≡ true
inside_here bs h = ap (is_inside false) (sym (append-nil bs)) ∙ h []

-- no string ends in the bytes
pub never_ends : (bs inside after : List ℕ) (e : Bool) → ((more : List ℕ) → is_inside false (bs ++ more) ≡ is_inside e more)
    → bs ≡ inside ++ 34 ∷ after → is_inside false inside ≡ true → ⊥
never_ends bs inside after true h e k =
    let ends = ap (λ t. is_inside false (t ++ 65 ∷ [])) e ∙ ap (is_inside false) (append_assoc inside (34 ∷ after) (65 ∷ [])) ∙ inside_end false inside (after ++ 65 ∷ []) k in
    false≢true (sym ends ∙ h (65 ∷ []))
never_ends bs inside after false h e k =
    let ends = ap (λ t. is_inside false (t ++ 65 ∷ [])) e ∙ ap (is_inside false) (append_assoc inside (34 ∷ after) (65 ∷ [])) ∙ inside_end false inside (after ++ 65 ∷ []) k in
    false≢true (sym ends ∙ h (65 ∷ []))

-- names have no `>`
name_byte_no_mark : (b : ℕ) → is_name_byte b ≡ true → (b == 62) ≡ false
name_byte_no_mark b h = grind (arith, nat_tests)

pub mark_of : (n x : List ℕ) → list_all is_name_byte n ≡ true → before_mark (n ++ 62 ∷ x) ≡ Some n
mark_of [] x h = refl
mark_of (b ∷ n) x h = let p = and_parts (is_name_byte b) (list_all is_name_byte n) h in
    cond-false (b == 62) (Some []) (cond (is_name_byte b) (option_map (λ m. b ∷ m) (before_mark (n ++ 62 ∷ x))) None) (name_byte_no_mark b p.0)
    ∙ cond-true (is_name_byte b) (option_map (λ m. b ∷ m) (before_mark (n ++ 62 ∷ x))) None p.0
    ∙ ap (option_map (λ m. b ∷ m)) (mark_of n x p.1)

pub known_letters : (paths : Paths) (n : List ℕ) (s : Source) → source_named paths n ≡ Some s → list_all is_name_byte n ≡ true
known_letters paths n s h = elim (cases_Bool (list_all is_name_byte n)) [
  | inl t ↦ t
  | inr f ↦ absurd (none-some s (sym (cond-false (list_all is_name_byte n) (first_named n (names paths)) None f) ∙ h))
]

-- a name in front of a `>` is the bytes before the first one
pub name_cut : (paths : Paths) (bytes front back n after : List ℕ) (s : Source) → before_mark bytes ≡ Some front → bytes ≡ front ++ 62 ∷ back
    → bytes ≡ n ++ 62 ∷ after → source_named paths n ≡ Some s → (front ≡ n) × (back ≡ after)
name_cut paths bytes front back n after s found whole e k =
    let same : front ≡ n = same_Some front n (sym found ∙ ap before_mark e ∙ mark_of n after (known_letters paths n s k)) in
    let rest : 62 ∷ back ≡ 62 ∷ after = append_cancel_left n (62 ∷ back) (62 ∷ after) (ap (λ t. t ++ 62 ∷ back) (sym same) ∙ sym whole ∙ e) in
    (same, let r = rest in cc)

tails : (b : ℕ) (xs ys : List ℕ) → b ∷ xs ≡ b ∷ ys → xs ≡ ys
tails b xs ys e = cc

apart_heads : (b c : ℕ) (xs ys : List ℕ) → b ∷ xs ≡ c ∷ ys → (b == c) ≡ false → ⊥
apart_heads b c xs ys e f = false≢true (sym f ∙ eq-eqb b c (let same : b ≡ c = cc in same))

head_of : (b c : ℕ) (xs ys : List ℕ) → b ∷ xs ≡ c ∷ ys → c ≡ b
head_of b c xs ys e = cc

-- which token begins with a quotation mark, with `<`, and with another byte
pub token_string : (paths : Paths) (bytes : List ℕ) (t : Token) (after : List ℕ) → BeginsToken paths (34 ∷ bytes) t after
    → (inside : List ℕ) × (t ≡ string inside) × (bytes ≡ inside ++ 34 ∷ after) × (is_inside false inside ≡ true)
token_string paths bytes (plain b) after h = absurd (h.1.0 (head_of 34 b bytes after h.0))
token_string paths bytes (string inside) after h =
    (inside, refl, tails 34 bytes ((inside ++ 34 ∷ []) ++ after) h.0 ∙ append_assoc inside (34 ∷ []) after, h.1)
token_string paths bytes (name n) after h = absurd (apart_heads 34 60 bytes ((n ++ 62 ∷ []) ++ after) h.0 refl)

pub token_name : (paths : Paths) (bytes : List ℕ) (t : Token) (after : List ℕ) → BeginsToken paths (60 ∷ bytes) t after
    → (n : List ℕ) × (t ≡ name n) × (bytes ≡ n ++ 62 ∷ after) × IsToken paths (name n) after
token_name paths bytes (plain b) after h = absurd (h.1.1 (head_of 60 b bytes after h.0))
token_name paths bytes (string inside) after h = absurd (apart_heads 60 34 bytes ((inside ++ 34 ∷ []) ++ after) h.0 refl)
token_name paths bytes (name n) after h = (n, refl, tails 60 bytes ((n ++ 62 ∷ []) ++ after) h.0 ∙ append_assoc n (62 ∷ []) after, h.1)

pub token_plain : (paths : Paths) (b : ℕ) (bytes : List ℕ) (t : Token) (after : List ℕ) → b ≢ 34 → b ≢ 60 → BeginsToken paths (b ∷ bytes) t after
    → (t ≡ plain b) × (bytes ≡ after)
token_plain paths b bytes (plain c) after h k (e, f) = (let same : c ≡ b = head_of b c bytes after e in ap plain same, let all = e in cc)
token_plain paths b bytes (string inside) after h k (e, f) = absurd (h (sym (head_of b 34 bytes ((inside ++ 34 ∷ []) ++ after) e)))
token_plain paths b bytes (name n) after h k (e, f) = absurd (k (sym (head_of b 60 bytes ((n ++ 62 ∷ []) ++ after) e)))

-- what is pushed is the only token
pub string_begins : (paths : Paths) (bytes inside after : List ℕ) → bytes ≡ inside ++ 34 ∷ after → is_inside false inside ≡ true
    → BeginsToken paths (34 ∷ bytes) (string inside) after
string_begins paths bytes inside after e k = (ap (λ t. 34 ∷ t) (e ∙ sym (append_assoc inside (34 ∷ []) after)), k)

pub string_only : (paths : Paths) (bytes inside rest : List ℕ) (t : Token) (after : List ℕ) → bytes ≡ inside ++ 34 ∷ rest → is_inside false inside ≡ true
    → BeginsToken paths (34 ∷ bytes) t after → (rest ≡ after) × (t ≡ string inside)
string_only paths bytes inside rest t after e k h =
    let p = token_string paths bytes t after h in
    let c = inside_cut false inside p.0 rest after k p.3 (sym e ∙ p.2) in (c.1, p.1 ∙ ap string (sym c.0))

pub name_begins : (paths : Paths) (bytes n after : List ℕ) → bytes ≡ n ++ 62 ∷ after → IsToken paths (name n) after → BeginsToken paths (60 ∷ bytes) (name n) after
name_begins paths bytes n after e k = (ap (λ t. 60 ∷ t) (e ∙ sym (append_assoc n (62 ∷ []) after)), k)

pub name_only : (paths : Paths) (bytes front back : List ℕ) (t : Token) (after : List ℕ) → before_mark bytes ≡ Some front → bytes ≡ front ++ 62 ∷ back
    → BeginsToken paths (60 ∷ bytes) t after → (back ≡ after) × (t ≡ name front) × IsToken paths (name front) back
name_only paths bytes front back t after found whole h =
    let p = token_name paths bytes t after h in
    let c = name_cut paths bytes front back p.0 after p.3.0 found whole p.2 p.3.1 in
    (c.1, p.1 ∙ ap name (sym c.0), (p.3.0, ap (source_named paths) c.0 ∙ p.3.1, ap colon_next c.1 ∙ p.3.2))

pub no_mark : (paths : Paths) (bytes : List ℕ) (t : Token) (after : List ℕ) → before_mark bytes ≡ None → BeginsToken paths (60 ∷ bytes) t after → ⊥
no_mark paths bytes t after none h =
    let p = token_name paths bytes t after h in
    none-some p.0 (sym none ∙ ap before_mark p.2 ∙ mark_of p.0 after (known_letters paths p.0 p.3.0 p.3.1))

-- tokens of the rest
abbrev pub TokensThere : Paths → List ℕ → List ℕ → List ℕ → Type 0
TokensThere paths text rest out = (left : List Token) → AreTokens paths left → rest ≡ given left
    → (all : List Token) × AreTokens paths all × (text ≡ given all) × (letters all ≡ out ++ letters left)

abbrev pub TokensOnly : Paths → List ℕ → List ℕ → List ℕ → Type 0
TokensOnly paths text rest out = (all : List Token) → AreTokens paths all → text ≡ given all
    → (left : List Token) × AreTokens paths left × (rest ≡ given left) × (letters all ≡ out ++ letters left)

pub one_more_there : (paths : Paths) (text rest after out new : List ℕ) (t : Token) → TokensThere paths text rest out → BeginsToken paths rest t after
    → new ≡ out ++ token_letters t → TokensThere paths text after new
one_more_there paths text rest after out new t there begins e left are is =
    let token = subst (IsToken paths t) is begins.1 in
    let k = there (t ∷ left) (token, are) (begins.0 ∙ ap (λ x. token_given t ++ x) is) in
    (k.0, k.1, k.2, k.3 ∙ sym (append_assoc out (token_letters t) (letters left)) ∙ ap (λ x. x ++ letters left) (sym e))

empty_text : (t : Token) (after : List ℕ) → [] ≡ token_given t ++ after → ⊥
empty_text (plain b) after e = cc
empty_text (string inside) after e = cc
empty_text (name n) after e = cc

first_token : (paths : Paths) (rest : List ℕ) (left : List Token) → 0 < length rest → AreTokens paths left → rest ≡ given left
    → (t : Token) × (more : List Token) × (left ≡ t ∷ more) × BeginsToken paths rest t (given more) × AreTokens paths more
first_token paths rest [] some are is = let none : length rest ≡ 0 = ap length is in absurd (omega (arith, none))
first_token paths rest (t ∷ more) some are is = (t, more, refl, (is, are.0), are.1)

pub one_more_only : (paths : Paths) (text rest after out new : List ℕ) → 0 < length rest
    → ((t : Token) (more : List ℕ) → BeginsToken paths rest t more → (after ≡ more) × (new ≡ out ++ token_letters t))
    → TokensOnly paths text rest out → TokensOnly paths text after new
one_more_only paths text rest after out new some step only all are is =
    let k = only all are is in let f = first_token paths rest k.0 some k.1 k.2 in let s = step f.0 (given f.1) f.3 in
    (f.1, f.4, s.0, k.3 ∙ ap (λ x. out ++ letters x) f.2 ∙ sym (append_assoc out (token_letters f.0) (letters f.1)) ∙ ap (λ x. x ++ letters f.1) (sym s.1))

pub none_goes_on : {P : Type 0} (paths : Paths) (text rest out : List ℕ) → 0 < length rest → ((t : Token) (more : List ℕ) → BeginsToken paths rest t more → P)
    → TokensOnly paths text rest out → (all : List Token) → AreTokens paths all → text ≡ given all → P
none_goes_on paths text rest out some step only all are is =
    let k = only all are is in let f = first_token paths rest k.0 some k.1 k.2 in step f.0 (given f.1) f.3

no_more : (paths : Paths) (rest : List ℕ) (left : List Token) → length rest ≡ 0 → rest ≡ given left → left ≡ []
no_more paths rest [] none is = refl
no_more paths [] (t ∷ left) none is = absurd (empty_text t (given left) is)
no_more paths (b ∷ rest) (t ∷ left) none is = absurd (omega arith)

pub all_there : (paths : Paths) (text rest out : List ℕ) → length rest ≡ 0 → TokensThere paths text rest out
    → (all : List Token) × AreTokens paths all × (text ≡ given all) × (out ≡ letters all)
all_there paths text [] out none there = let k = there [] tt refl in (k.0, k.1, k.2, sym (k.3 ∙ append-nil out))
all_there paths text (b ∷ rest) out none there = absurd (omega arith)

pub all_only : (paths : Paths) (text rest out : List ℕ) → length rest ≡ 0 → TokensOnly paths text rest out
    → (all : List Token) → AreTokens paths all → text ≡ given all → out ≡ letters all
all_only paths text rest out none only all are is =
    let k = only all are is in
    sym (k.3 ∙ ap (λ x. out ++ letters x) (no_more paths rest k.0 none k.2) ∙ append-nil out)

-- bytes are cut around the byte at a place
pub cut_here : (bs : List ℕ) (n b : ℕ) → n < length bs → get_or bs n 0 ≡ b → bs ≡ take n bs ++ b ∷ take (length bs - (n + 1)) (drop (n + 1) bs)
cut_here bs n b within is =
    sym (take-append-drop n bs) ∙ ap (λ t. take n bs ++ t) (drop_more bs n 0 within ∙ ap (λ c. c ∷ drop (n + 1) bs) is ∙ ap (λ t. b ∷ t) (sym (take_rest bs (n + 1))))
