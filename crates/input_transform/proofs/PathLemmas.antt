-- A path's text has one list of steps: `steps_only`. What a step finds: `item_found`.
use Rattle.std.proofs.Common.{◌≡◌, ◌≢◌, ℕ, zero, suc, ◌+◌, ◌-◌, ◌*◌, ◌/◌, ◌%◌, ◌^◌, ◌<◌, ◌≤◌, inl, inr, true, false, List, [], ◌∷◌, ◌++◌, length, get_or, take, drop, Option, Some, None, refl, sym, ap, ◌∙◌, subst, arith, decimal, append_assoc, nat_lt, ◌==◌}
use Rattle.std.specs.Option.{option_map, option_copied}
use Rattle.std.specs.List.{list_all, slice_get}
use Rattle.std.specs.Str.{IsUtf8}
use Rattle.std.specs.Str.Parse.{AllDigits, digits_value, digits_value_after}
use Rattle.std.specs.Char.{digit_value}
use Rattle.std.proofs.lemmas.Option.{slice_get-map, slice_get_past, slice_get_read}
use Rattle.std.proofs.Common.{MatchOption, Bor, IfSome, is_some, ◌⊎◌, length-append}
use Rattle.std.proofs.lemmas.Fmt.{decimal_is_IsNumeral, decimal_nonempty, first_decimal, decimal_digit, decimal_injective, decimal_step}
use Rattle.std.proofs.lemmas.List.{append-nil, take_rest, take-append-drop}
use Rattle.std.proofs.lemmas.Bool.{false≢true, eq-eqb, and_parts, and_from, ltb-true, ltb-false}
use Rattle.std.proofs.lemmas.Bool.Decides.{nat_tests}
use Rattle.json_text.specs.Tree.{Tree, list, items_of}
use Rattle.json_text.specs.View.{tree_of, trees_of}
use Rattle.json_text.specs.Access.{trees_in}
use Rattle.json_text.specs.declared.value.Json.{Json}
use Rattle.json_text.proofs.WrittenUtf8.{small_utf8}
use Rattle.input_transform.specs.declared.path.Step.{Step}
use Rattle.input_transform.specs.declared.path.Step.TheVariants.{Name, Place}
use Rattle.input_transform.specs.Path.{is_letter, IsStep, AreSteps, step_text, steps_text, items_in}
use Rattle.input_transform.specs.Cuts.{IsLetters, IsNoLetterFirst, BeginsSo, Ends}

trees_back : (ts : List Tree) → trees_in (items_of ts) ≡ ts
trees_back [] = refl
trees_back (t ∷ ts) = ap (λ xs. t ∷ xs) (trees_back ts)

-- the item at a place, as the list of the code gives it
pub item_found : (items : List Json) (n : ℕ) (r : Option Json) → r ≡ slice_get items n
    → option_map tree_of r ≡ slice_get (items_in (list (items_of (trees_of items)))) n
item_found items n r e = ap (option_map tree_of) e ∙ sym (slice_get-map tree_of items n) ∙ ap (λ ts. slice_get ts n) (sym (trees_back (trees_of items)))

-- letters are ASCII
letter_ascii : (b : ℕ) → is_letter b ≡ true → nat_lt b 128 ≡ true
letter_ascii b e = grind (arith, nat_tests)

letters_ascii : (bs : List ℕ) → IsLetters bs → list_all (λ b. nat_lt b 128) bs ≡ true
letters_ascii [] e = refl
letters_ascii (b ∷ bs) e = let p = and_parts (is_letter b) (list_all is_letter bs) e in and_from _ _ (letter_ascii b p.0) (letters_ascii bs p.1)

pub letters_utf8 : (bs : List ℕ) → IsLetters bs → IsUtf8 bs
letters_utf8 bs e = small_utf8 bs (letters_ascii bs e)

-- letters and then no letter: the letters are the same
letters_cut : (xs ys us vs : List ℕ) → IsLetters xs → IsLetters ys → IsNoLetterFirst us → IsNoLetterFirst vs → xs ++ us ≡ ys ++ vs → (xs ≡ ys) × (us ≡ vs)
letters_cut [] [] us vs a b c d e = (refl, e)
letters_cut [] (y ∷ ys) us vs a b c d e = let first = and_parts (is_letter y) (list_all is_letter ys) b in
    absurd (false≢true (sym (subst IsNoLetterFirst e c) ∙ first.0))
letters_cut (x ∷ xs) [] us vs a b c d e = let first = and_parts (is_letter x) (list_all is_letter xs) a in
    absurd (false≢true (sym (subst IsNoLetterFirst (sym e) d) ∙ first.0))
letters_cut (x ∷ xs) (y ∷ ys) us vs a b c d e =
    let head : x ≡ y = cc in let rest : xs ++ us ≡ ys ++ vs = cc in
    let p = letters_cut xs ys us vs (and_parts (is_letter x) (list_all is_letter xs) a).1 (and_parts (is_letter y) (list_all is_letter ys) b).1 c d rest in
    (let same = p.0 in cc, p.1)

-- digits and then a closing bracket: the front digits are a front of them
no_digit : (b : ℕ) → digit_value b < 10 → b ≡ 93 → ⊥
no_digit b h e = let value : digit_value 93 < 10 = subst (λ c. digit_value c < 10) e h in omega (arith, value)

pub digits_split : (xs ys us vs : List ℕ) → AllDigits 10 xs → AllDigits 10 ys → xs ++ us ≡ ys ++ 93 ∷ vs → (zs : List ℕ) × (ys ≡ xs ++ zs) × (us ≡ zs ++ 93 ∷ vs)
digits_split [] ys us vs a b e = (ys, refl, e)
digits_split (x ∷ xs) [] us vs a b e = absurd (no_digit x a.0 cc)
digits_split (x ∷ xs) (y ∷ ys) us vs a b e =
    let head : x ≡ y = cc in let rest : xs ++ us ≡ ys ++ 93 ∷ vs = cc in
    let p = digits_split xs ys us vs a.1 b.1 rest in (p.0, let same = p.1 in cc, p.2)

digits_of : (n : ℕ) → n < 2 ^ 31 → AllDigits 10 (decimal n)
digits_of n small = (decimal_is_IsNumeral n (omega arith)).0.1

-- a digit after a number's digits
pub digit_after : (n d : ℕ) → 0 < n → d < 10 → 10 * n + d < 2 ^ 64 → decimal (10 * n + d) ≡ decimal n ++ (48 + d) ∷ []
digit_after n d some low small =
    let front : (10 * n + d) / 10 ≡ n = omega arith in let last : (10 * n + d) % 10 ≡ d = omega arith in
    decimal_step (10 * n + d) (omega arith) small ∙ ap (λ m. decimal m ++ (48 + (10 * n + d) % 10) ∷ []) front ∙ ap (λ m. decimal n ++ (48 + m) ∷ []) last

AllDigits-right : (xs ys : List ℕ) → AllDigits 10 (xs ++ ys) → AllDigits 10 ys
AllDigits-right [] ys h = h
AllDigits-right (x ∷ xs) ys h = AllDigits-right xs ys h.1

-- the item at a place, by what `get` says
pub item_got : (items : List Json) (n : ℕ) (r : Option (Bor Json)) → is_some r ≡ nat_lt n (length items) → IfSome r (λ x. x.now ≡ get_or items n x.now)
    → option_copied r ≡ slice_get items n
item_got items n None e h = sym (slice_get_past items n (ltb-false _ _ (sym e)))
item_got items n (Some x) e h = sym (slice_get_read items (length items) n x.now refl (ltb-true _ _ (sym e)) h)

plain_or_zero : (n : ℕ) → n < 2 ^ 64 → get_or (decimal n) 0 0 ≡ 48 → length (decimal n) ≡ 1
plain_or_zero zero small e = ap length (decimal_digit 0 (omega arith))
plain_or_zero (suc n) small e = absurd (omega (arith, first_decimal (suc n) (omega arith) small, e))

-- the value of digits after others
after_at_least : (n : ℕ) (ds : List ℕ) → n ≤ digits_value_after 10 n ds
after_at_least n [] = omega arith
after_at_least n (d ∷ ds) = let more = after_at_least (n * 10 + digit_value d) ds in omega (arith, more)

value_append : (n : ℕ) (xs ys : List ℕ) → digits_value_after 10 n (xs ++ ys) ≡ digits_value_after 10 (digits_value_after 10 n xs) ys
value_append n [] ys = refl
value_append n (x ∷ xs) ys = value_append (n * 10 + digit_value x) xs ys

-- a number whose digits begin with those of another, and then a digit, is at least so large, and the other is not 0
front_value : (n m d : ℕ) (ds : List ℕ) → n < 2 ^ 31 → m < 2 ^ 31 → decimal m ≡ decimal n ++ d ∷ ds → (0 < n) × (n * 10 + digit_value d ≤ m)
front_value zero m d ds small fits e =
    let begins : get_or (decimal m) 0 0 ≡ 48 = ap (λ xs. get_or xs 0 0) (e ∙ ap (λ xs. xs ++ d ∷ ds) (decimal_digit 0 (omega arith))) in
    let long : length (decimal m) ≡ suc (suc (length ds)) = ap length (e ∙ ap (λ xs. xs ++ d ∷ ds) (decimal_digit 0 (omega arith))) in
    let one = plain_or_zero m (omega arith) begins in absurd (omega (arith, one, long))
front_value (suc n) m d ds small fits e = (
  omega arith,
  let whole : m ≡ digits_value_after 10 (digits_value 10 (decimal (suc n))) (d ∷ ds) =
      sym (decimal_is_IsNumeral m (omega arith)).1 ∙ ap (digits_value 10) e ∙ value_append 0 (decimal (suc n)) (d ∷ ds) in
      let front = (decimal_is_IsNumeral (suc n) (omega arith)).1 in
      let at_least = after_at_least (suc n * 10 + digit_value d) ds in
      let whole' : m ≡ digits_value_after 10 (suc n * 10 + digit_value d) ds = whole ∙ ap (λ k. digits_value_after 10 k (d ∷ ds)) front in
      omega (arith, at_least, whole'),
)

-- no number goes on with the byte
cannot_be : (n m b : ℕ) (ds : List ℕ) → n < 2 ^ 31 → m < 2 ^ 31 → AllDigits 10 (decimal m)
    → (n ≡ 0) ⊎ ((10 ≤ digit_value b) ⊎ (2 ^ 31 ≤ n * 10 + digit_value b)) → decimal m ≡ decimal n ++ b ∷ ds → ⊥
cannot_be n m b ds small fits all (inl none) e = let k = (front_value n m b ds small fits e).0 in omega (arith, k)
cannot_be n m b ds small fits all (inr (inl other)) e = let k : digit_value b < 10 = (AllDigits-right (decimal n) (b ∷ ds) (subst (AllDigits 10) e all)).0 in omega (arith, k, other)
cannot_be n m b ds small fits all (inr (inr large)) e = let k = (front_value n m b ds small fits e).1 in omega (arith, k)

further_cases : (n m b : ℕ) (bs rest zs : List ℕ) → n < 2 ^ 31 → m < 2 ^ 31 → (n ≡ 0) ⊎ ((10 ≤ digit_value b) ⊎ (2 ^ 31 ≤ n * 10 + digit_value b))
    → decimal m ≡ decimal n ++ zs → b ∷ bs ≡ zs ++ 93 ∷ rest → b ≡ 93
further_cases n m b bs rest [] small fits why p q = cc
further_cases n m b bs rest (z ∷ zs) small fits why p q = let same : b ≡ z = cc in
    absurd (cannot_be n m b zs small fits (digits_of m fits) why (p ∙ ap (λ k. decimal n ++ k ∷ zs) (sym same)))

pub no_further : (n m b : ℕ) (bs rest : List ℕ) → n < 2 ^ 31 → m < 2 ^ 31 → (n ≡ 0) ⊎ ((10 ≤ digit_value b) ⊎ (2 ^ 31 ≤ n * 10 + digit_value b))
    → decimal n ++ b ∷ bs ≡ decimal m ++ 93 ∷ rest → b ≡ 93
no_further n m b bs rest small fits why e =
    let p = digits_split (decimal n) (decimal m) (b ∷ bs) rest (digits_of n small) (digits_of m fits) e in
    further_cases n m b bs rest p.0 small fits why p.1 p.2

pub value_of_digit : (b d : ℕ) → d < 10 → b ≡ 48 + d → digit_value b ≡ d
value_of_digit b d low e = grind (arith, nat_tests)

-- the end of the bytes
pub no_bracket : (n m : ℕ) (bs rest : List ℕ) → n < 2 ^ 31 → m < 2 ^ 31 → length bs ≡ 0 → decimal n ++ bs ≡ decimal m ++ 93 ∷ rest → ⊥
no_bracket n m [] rest small fits none e =
    let p = digits_split (decimal n) (decimal m) [] rest (digits_of n small) (digits_of m fits) e in
    let long : 0 ≡ length (p.0 ++ 93 ∷ rest) = ap length p.2 in let sum = length-append p.0 (93 ∷ rest) in omega (arith, long, sum)
no_bracket n m (b ∷ bs) rest small fits none e = omega arith

-- a closing bracket here ends the number
pub cons_at : (bs : List ℕ) → 0 < length bs → bs ≡ get_or bs 0 0 ∷ drop 1 bs
cons_at [] h = absurd (omega arith)
cons_at (b ∷ bs) h = refl

-- a first digit
first_no_digit : (m b : ℕ) (bs rest ds : List ℕ) → AllDigits 10 ds → 10 ≤ digit_value b → 0 < length ds → b ∷ bs ≡ ds ++ 93 ∷ rest → ⊥
first_no_digit m b bs rest [] all other some e = omega arith
first_no_digit m b bs rest (d ∷ ds) all other some e = let same : d ≡ b = cc in let k : digit_value b < 10 = subst (λ c. digit_value c < 10) same all.0 in omega (arith, k, other)

pub not_begun : (m b : ℕ) (bs rest : List ℕ) → m < 2 ^ 31 → 10 ≤ digit_value b → b ∷ bs ≡ decimal m ++ 93 ∷ rest → ⊥
not_begun m b bs rest fits other e = first_no_digit m b bs rest (decimal m) (digits_of m fits) other (decimal_nonempty m (omega arith)) e

pub not_empty : (m : ℕ) (bs rest : List ℕ) → length bs ≡ 0 → bs ≡ decimal m ++ 93 ∷ rest → ⊥
not_empty m bs rest none e = let long : length bs ≡ length (decimal m ++ 93 ∷ rest) = ap length e in let sum = length-append (decimal m) (93 ∷ rest) in omega (arith, long, sum)

-- two ways to write a place
same_place_cases : (n m : ℕ) (us vs zs : List ℕ) → n < 2 ^ 31 → m < 2 ^ 31 → decimal m ≡ decimal n ++ zs → 93 ∷ us ≡ zs ++ 93 ∷ vs → (n ≡ m) × (us ≡ vs)
same_place_cases n m us vs [] small fits p q = (sym (decimal_injective m n (omega arith) (omega arith) (p ∙ append-nil (decimal n))), cc)
same_place_cases n m us vs (z ∷ zs) small fits p q =
    let same : z ≡ 93 = cc in
    absurd (no_digit z (AllDigits-right (decimal n) (z ∷ zs) (subst (AllDigits 10) p (digits_of m fits))).0 same)

pub same_place : (n m : ℕ) (us vs : List ℕ) → n < 2 ^ 31 → m < 2 ^ 31 → decimal n ++ 93 ∷ us ≡ decimal m ++ 93 ∷ vs → (n ≡ m) × (us ≡ vs)
same_place n m us vs small fits e =
    let p = digits_split (decimal n) (decimal m) (93 ∷ us) vs (digits_of n small) (digits_of m fits) e in same_place_cases n m us vs p.0 small fits p.1 p.2

tails : (b : ℕ) (xs ys : List ℕ) → b ∷ xs ≡ b ∷ ys → xs ≡ ys
tails b xs ys e = cc

apart_heads : (b c : ℕ) (xs ys : List ℕ) → b ∷ xs ≡ c ∷ ys → (b == c) ≡ false → ⊥
apart_heads b c xs ys e f = false≢true (sym f ∙ eq-eqb b c (let same : b ≡ c = cc in same))

same_names : (a b us vs : List ℕ) → IsStep (Name a) → IsStep (Name b) → IsNoLetterFirst us → IsNoLetterFirst vs → 46 ∷ (a ++ us) ≡ 46 ∷ (b ++ vs)
    → (Name a ≡ Name b) × (us ≡ vs)
same_names a b us vs h i k l e = let c = letters_cut a b us vs h.1 i.1 k l (tails 46 (a ++ us) (b ++ vs) e) in (ap Name c.0, c.1)

same_places : (n m : ℕ) (us vs : List ℕ) → n < 2 ^ 31 → m < 2 ^ 31 → 91 ∷ ((decimal n ++ 93 ∷ []) ++ us) ≡ 91 ∷ ((decimal m ++ 93 ∷ []) ++ vs)
    → (Place n ≡ Place m) × (us ≡ vs)
same_places n m us vs h i e =
    let c = same_place n m us vs h i (sym (append_assoc (decimal n) (93 ∷ []) us) ∙ tails 91 ((decimal n ++ 93 ∷ []) ++ us) ((decimal m ++ 93 ∷ []) ++ vs) e
    ∙ append_assoc (decimal m) (93 ∷ []) vs) in (ap Place c.0, c.1)

-- A step and what follows it are the only ones of these bytes.
pub steps_same : (s t : Step) (us vs bytes : List ℕ) → BeginsSo bytes s us → Ends s us → BeginsSo bytes t vs → Ends t vs → (s ≡ t) × (us ≡ vs)
steps_same (Name a) (Name b) us vs bytes h k i l = same_names a b us vs h.1 i.1 k l (sym h.0 ∙ i.0)
steps_same (Name a) (Place m) us vs bytes h k i l = absurd (apart_heads 46 91 (a ++ us) ((decimal m ++ 93 ∷ []) ++ vs) (sym h.0 ∙ i.0) refl)
steps_same (Place n) (Name b) us vs bytes h k i l = absurd (apart_heads 91 46 ((decimal n ++ 93 ∷ []) ++ us) (b ++ vs) (sym h.0 ∙ i.0) refl)
steps_same (Place n) (Place m) us vs bytes h k i l = same_places n m us vs h.1 i.1 (sym h.0 ∙ i.0)

-- no name goes on with what the next steps write
pub steps_end : (s : Step) (ss : List Step) → Ends s (steps_text ss)
steps_end (Name name) [] = tt
steps_end (Name name) (Name other ∷ ss) = refl
steps_end (Name name) (Place n ∷ ss) = refl
steps_end (Place n) ss = tt

-- the bytes after the first one
pub rest_at : (bs : List ℕ) → take (length bs - 1) (drop 1 bs) ≡ drop 1 bs
rest_at bs = take_rest bs 1

pub begins_with : (b : ℕ) (bs : List ℕ) → 0 < length bs → get_or bs 0 0 ≡ b → bs ≡ b ∷ take (length bs - 1) (drop 1 bs)
begins_with b bs some is = cons_at bs some ∙ ap (λ c. c ∷ drop 1 bs) is ∙ ap (λ xs. b ∷ xs) (sym (rest_at bs))

-- A name that is read is the only one.
pub name_only : (bytes front back : List ℕ) (n : ℕ) (step : Step) (rest : List ℕ) → front ≡ take n bytes → back ≡ drop n bytes
    → IsLetters (take n bytes) → IsNoLetterFirst (drop n bytes) → BeginsSo (46 ∷ bytes) step rest → Ends step rest
    → (front ≢ []) × (Name front ≡ step) × (back ≡ rest)
name_only bytes front back n (Name name) rest f b letters longest begins ends =
    let e : take n bytes ++ drop n bytes ≡ name ++ rest = take-append-drop n bytes ∙ tails 46 bytes (name ++ rest) begins.0 in
    let c = letters_cut (take n bytes) name (drop n bytes) rest letters begins.1.1 longest ends e in
    (λ none. begins.1.0 (sym c.0 ∙ sym f ∙ none), ap Name (f ∙ c.0), b ∙ c.1)
name_only bytes front back n (Place m) rest f b letters longest begins ends =
    absurd (apart_heads 46 91 bytes ((decimal m ++ 93 ∷ []) ++ rest) begins.0 refl)

-- A number that is read is the only one.
pub place_only : (bytes : List ℕ) (n : ℕ) (after : List ℕ) (step : Step) (rest : List ℕ) → bytes ≡ decimal n ++ 93 ∷ after → n < 2 ^ 31
    → BeginsSo (91 ∷ bytes) step rest → Ends step rest → (Place n ≡ step) × (after ≡ rest)
place_only bytes n after step rest e fits begins ends =
    steps_same (Place n) step after rest (91 ∷ bytes) (ap (λ xs. 91 ∷ xs) (e ∙ sym (append_assoc (decimal n) (93 ∷ []) after)), fits) tt begins ends

-- what a first digit and the number after it write
pub first_digit : (bs rest : List ℕ) (d b m : ℕ) → b ≡ 48 + d → d < 10 → bs ≡ b ∷ rest → decimal d ++ rest ≡ bs
first_digit bs rest d b m is low e = ap (λ xs. xs ++ rest) (decimal_digit d low) ∙ ap (λ c. c ∷ rest) (sym is) ∙ sym e

-- A text has one meaning as a path.
pub steps_only : (bytes : List ℕ) (ss ts : List Step) → AreSteps ss → AreSteps ts → bytes ≡ steps_text ss → bytes ≡ steps_text ts → ss ≡ ts
steps_only bytes [] [] a b p q = refl
steps_only bytes [] (Name name ∷ ts) a b p q = let e = sym p ∙ q in cc
steps_only bytes [] (Place n ∷ ts) a b p q = let e = sym p ∙ q in cc
steps_only bytes (Name name ∷ ss) [] a b p q = let e = sym p ∙ q in cc
steps_only bytes (Place n ∷ ss) [] a b p q = let e = sym p ∙ q in cc
steps_only bytes (s ∷ ss) (t ∷ ts) a b p q =
    let c = steps_same s t (steps_text ss) (steps_text ts) bytes (p, a.0) (steps_end s ss) (q, b.0) (steps_end t ts) in
    let rest = steps_only (steps_text ss) ss ts a.1 b.1 refl c.1 in let first = c.0 in cc

-- what is said of some bytes, of the same bytes written otherwise
abbrev pub ReadsPlace : List ℕ → Option (ℕ × Bor (List ℕ)) → Type 0
ReadsPlace bytes r = MatchOption r ((m : ℕ) (rest : List ℕ) → m < 2 ^ 31 → bytes ≡ decimal m ++ 93 ∷ rest → ⊥)
    (λ r. (r.0 < 2 ^ 31) × (bytes ≡ decimal r.0 ++ 93 ∷ r.1.now))

pub moved : (xs ys : List ℕ) (r : Option (ℕ × Bor (List ℕ))) → xs ≡ ys → ReadsPlace xs r → ReadsPlace ys r
moved xs ys r e h = subst (λ bytes. ReadsPlace bytes r) e h

steps_text-append : (xs ys : List Step) → steps_text (xs ++ ys) ≡ steps_text xs ++ steps_text ys
steps_text-append [] ys = refl
steps_text-append (x ∷ xs) ys = ap (λ t. step_text x ++ t) (steps_text-append xs ys) ∙ sym (append_assoc (step_text x) (steps_text xs) (steps_text ys))

AreSteps-push : (xs : List Step) (s : Step) → AreSteps xs → IsStep s → AreSteps (xs ++ s ∷ [])
AreSteps-push [] s a b = (b, tt)
AreSteps-push (x ∷ xs) s a b = (a.0, AreSteps-push xs s a.1 b)

-- a step more is read
pub one_more_written : (bytes rest after : List ℕ) (xs : List Step) (s : Step) → bytes ≡ steps_text xs ++ rest → rest ≡ step_text s ++ after
    → bytes ≡ steps_text (xs ++ s ∷ []) ++ after
one_more_written bytes rest after xs s p q =
    p ∙ ap (λ t. steps_text xs ++ t) q ∙ sym (append_assoc (steps_text xs) (step_text s) after)
    ∙ ap (λ t. (steps_text xs ++ t) ++ after) (sym (append-nil (step_text s))) ∙ ap (λ t. t ++ after) (sym (steps_text-append xs (s ∷ [])))

pub one_more_are : (xs : List Step) (s : Step) → AreSteps xs → IsStep s → AreSteps (xs ++ s ∷ [])
one_more_are = AreSteps-push

no_text : (s : Step) (after : List ℕ) → step_text s ++ after ≡ [] → ⊥
no_text (Name name) after e = cc
no_text (Place n) after e = cc

-- Steps that the rest writes begin with the one that was read.
abbrev pub IsOnlyStep : List ℕ → Step → List ℕ → Type 0
IsOnlyStep rest s after = (step : Step) (more : List ℕ) → BeginsSo rest step more → Ends step more → (s ≡ step) × (after ≡ more)

pub left_after : (rest after : List ℕ) (s : Step) (all xs left : List Step) → BeginsSo rest s after → IsOnlyStep rest s after
    → all ≡ xs ++ left → AreSteps left → rest ≡ steps_text left
    → (more : List Step) × (all ≡ (xs ++ s ∷ []) ++ more) × AreSteps more × (after ≡ steps_text more)
left_after rest after s all xs [] begins only e are w = absurd (no_text s after (sym begins.0 ∙ w))
left_after rest after s all xs (t ∷ ts) begins only e are w =
    let c = only t (steps_text ts) (w, are.0) (steps_end t ts) in
    (ts, e ∙ ap (λ u. xs ++ u ∷ ts) (sym c.0) ∙ sym (append_assoc xs (s ∷ []) ts), are.1, c.1)

-- no step is read, so none is written
pub none_left : {P : Type 0} (rest : List ℕ) (all xs left : List Step) → ((step : Step) (more : List ℕ) → BeginsSo rest step more → Ends step more → P)
    → 0 < length rest → AreSteps left → rest ≡ steps_text left → P
none_left rest all xs [] none some are w = let long : length rest ≡ 0 = ap length w in absurd (omega (arith, long))
none_left rest all xs (t ∷ ts) none some are w = none t (steps_text ts) (w, are.0) (steps_end t ts)

-- at the end of the bytes nothing is left
pub all_read : (rest : List ℕ) (all xs left : List Step) → length rest ≡ 0 → all ≡ xs ++ left → rest ≡ steps_text left → xs ≡ all
all_read rest all xs [] none e w = sym (e ∙ append-nil xs)
all_read rest all xs (Name name ∷ left) none e w = let long : length rest ≡ suc (length (name ++ steps_text left)) = ap length w in absurd (omega (arith, long))
all_read rest all xs (Place n ∷ left) none e w = let long : length rest ≡ suc (length ((decimal n ++ 93 ∷ []) ++ steps_text left)) = ap length w in absurd (omega (arith, long))
