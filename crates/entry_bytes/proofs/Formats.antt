-- What is at the front of bytes is spelled there, and what is spelled there is found: `IsReadAs`, of numbers, texts, pairs, lists and
-- alternatives.
use Rattle.std.proofs.Common.{◌≡◌, ℕ, zero, suc, ◌+◌, ◌^◌, ◌<◌, ◌≤◌, Bool, true, false, cond, ltb, eqb, List, [], ◌∷◌, ◌++◌, length, take, drop, Option, Some, None, Result, Ok, Err, refl, sym, ap, subst, ◌∙◌, append_assoc, arith, inl, inr}
use Rattle.std.specs.Prelude.{◌⊎◌, OnOk}
use Rattle.std.specs.Int.{Width, w16, w32, w64, byte_len, from_be_bytes}
use Rattle.std.specs.Str.{IsUtf8, is_utf8}
use Rattle.std.specs.List.{flat_map, AllByRecursion}
use Rattle.std.proofs.lemmas.Bool.{cases_lt, ltb-false, le-ltb, eqb-true}
use Rattle.std.proofs.lemmas.Str.{IsUtf8-from_is_utf8, is_utf8-from_IsUtf8}
use Rattle.std.proofs.lemmas.List.{take_at, drop_at, take-append-drop, length-append, length-take, get_or-drop, get_or-take, get_or_past}
use Rattle.std.proofs.lemmas.List.Concat.{flat_map-cons}
use Rattle.std.proofs.lemmas.Nat.{be_bytes_2, be_bytes_4, be_bytes_8, from_be_bytes-to_be_bytes_2, from_be_bytes-to_be_bytes_4, from_be_bytes-to_be_bytes_8}
use Rattle.entry_bytes.specs.Fields.{two_bytes, four_bytes, eight_bytes, text_bytes, flag_bytes, optional_bytes, list_bytes, IsText, IsOptional, IsList}
use Rattle.entry_bytes.specs.Reading.{IsBytes, Takes, IsReadAs, ◌>>=◌, pair_at, made_at, nothing_at, choice_at, two_at, four_at, eight_at, text_at, flag_at, optional_at, items_at, list_at}

IsBytes-drop : (n : ℕ) (bytes : List ℕ) → IsBytes bytes → IsBytes (drop n bytes)
IsBytes-drop n bytes h i = rw get_or-drop (h (n + i))

IsBytes-take : (n : ℕ) (bytes : List ℕ) → IsBytes bytes → IsBytes (take n bytes)
IsBytes-take n bytes h i =
    elim (cases_lt i n) [
      | inl lt ↦ rw (get_or-take n bytes i 0 lt) (h i)
      | inr le ↦ rw (get_or_past (take n bytes) i 0 (omega (arith, length-take n bytes))) (omega arith)
    ]

pub IsBytes-rest : (b : ℕ) (bytes : List ℕ) → IsBytes (b ∷ bytes) → IsBytes bytes
IsBytes-rest b bytes h i = h (suc i)

-- the value of a step that found one
pub bind_some : {A B : Type 0} (r : Option A) (f : A → Option B) (y : B) → (r >>= f) ≡ Some y → (x : A) × (r ≡ Some x) × (f x ≡ Some y)
bind_some (Some x) f y e = (x, refl, e)
bind_some None f y e = absurd cc

abbrev found : {A : Type 0} → A → Option A
found x = Some x

abbrev nothing : (A : Type 0) → Option A
nothing A = None

pub some_is : {A : Type 0} (x y : A) → found x ≡ found y → x ≡ y
some_is x y e = cc

-- a test that let a value through
pub guard_some : {A : Type 0} (b : Bool) (r : Option A) (y : A) → cond b (nothing A) r ≡ Some y → (b ≡ false) × (r ≡ Some y)
guard_some true r y e = absurd cc
guard_some false r y e = (refl, e)

pub allowed_some : {A : Type 0} (b : Bool) (r : Option A) (y : A) → cond b r (nothing A) ≡ Some y → (b ≡ true) × (r ≡ Some y)
allowed_some true r y e = (refl, e)
allowed_some false r y e = absurd cc

pub cond_is : {A : Type 0} (b : Bool) (x y z : A) → cond b x y ≡ z → ((b ≡ true) × (x ≡ z)) ⊎ ((b ≡ false) × (y ≡ z))
cond_is true x y z e = inl (refl, e)
cond_is false x y z e = inr (refl, e)

pub Takes-then : (a x b y c : List ℕ) → Takes a x b → Takes b y c → Takes a (x ++ y) c
Takes-then a x b y c p q = record { parts = p.parts ∙ ap (λ (t : List ℕ). x ++ t) q.parts ∙ sym (append_assoc x y c); rest_fits = q.rest_fits }

pub Takes-after : (k : ℕ) (a x b : List ℕ) → Takes a x b → Takes (k ∷ a) (k ∷ x) b
Takes-after k a x b p = record { parts = ap (λ (t : List ℕ). k ∷ t) p.parts; rest_fits = p.rest_fits }

-- ---- UTF-8

not_true : (b : Bool) → (b ≡ true → ⊥) → b ≡ false
not_true true h = absurd (h refl)
not_true false h = refl

pub has_utf8 : (bs t : List ℕ) → IsUtf8 bs → t ≡ bs → cond (is_utf8 bs) (found bs) None ≡ Some t
has_utf8 bs t u e = rw (is_utf8-from_IsUtf8 bs u, e) refl

pub text_fits : {A E : Type 0} (result : Result A E) (t : List ℕ) → length t < 2 ^ 32 → IsUtf8 t → OnOk result (IsText t)
text_fits (Ok x) t short u = (short, is_utf8-from_IsUtf8 t u)
text_fits (Err e) t short u = tt

pub has_no_utf8 : (bs : List ℕ) → (IsUtf8 bs → ⊥) → cond (is_utf8 bs) (found bs) None ≡ None
has_no_utf8 bs h = rw (not_true (is_utf8 bs) (λ e. h (IsUtf8-from_is_utf8 bs e))) refl

-- ---- numbers

record IsWide (w : Width) (spell : ℕ → List ℕ) (limit : ℕ) : Type 0 where
  len : (n : ℕ) → length (spell n) ≡ byte_len w
  back : (bytes : List ℕ) → length bytes ≡ byte_len w → IsBytes bytes → spell (from_be_bytes w bytes) ≡ bytes
  again : (n : ℕ) → n < limit → from_be_bytes w (spell n) ≡ n
  below : (bytes : List ℕ) → IsBytes bytes → from_be_bytes w bytes < limit

abbrev number_at : Width → List ℕ → Option (ℕ × List ℕ)
number_at w bytes = cond (ltb (length bytes) (byte_len w)) None (Some (from_be_bytes w (take (byte_len w) bytes), drop (byte_len w) bytes))

number_takes : (w : Width) (spell : ℕ → List ℕ) (limit : ℕ) (wide : IsWide w spell limit) (bytes : List ℕ) (n : ℕ) (rest : List ℕ) → IsBytes bytes
    → number_at w bytes ≡ Some (n, rest) → Takes bytes (spell n) rest × (n < limit)
number_takes w spell limit wide bytes n rest fits e =
    let g = guard_some (ltb (length bytes) (byte_len w)) (Some (from_be_bytes w (take (byte_len w) bytes), drop (byte_len w) bytes)) (n, rest) e in
    let long : byte_len w ≤ length bytes = ltb-false _ _ g.0 in
    let both = some_is (from_be_bytes w (take (byte_len w) bytes), drop (byte_len w) bytes) (n, rest) g.1 in
    let n-is : from_be_bytes w (take (byte_len w) bytes) ≡ n = ap (λ (p : ℕ × List ℕ). p.0) both in
    let rest-is : drop (byte_len w) bytes ≡ rest = ap (λ (p : ℕ × List ℕ). p.1) both in
    let front : spell n ≡ take (byte_len w) bytes = rw (← n-is) (wide.back (take (byte_len w) bytes) (omega (arith, length-take (byte_len w) bytes)) (IsBytes-take (byte_len w) bytes fits)) in
    (record { parts = rw (front, ← rest-is) (sym (take-append-drop (byte_len w) bytes)); rest_fits = rw (← rest-is) (IsBytes-drop (byte_len w) bytes fits) }, rw (← n-is) (wide.below (take (byte_len w) bytes) (IsBytes-take (byte_len w) bytes fits)))

number_again : (w : Width) (spell : ℕ → List ℕ) (limit : ℕ) (wide : IsWide w spell limit) (n : ℕ) (rest : List ℕ) → n < limit → number_at w (spell n ++ rest) ≡ Some (n, rest)
number_again w spell limit wide n rest lt =
    let len = wide.len n in
    let long : ltb (length (spell n ++ rest)) (byte_len w) ≡ false = le-ltb _ _ (omega (arith, length-append (spell n) rest)) in
    rw (long, take_at (spell n) rest (byte_len w) len, drop_at (spell n) rest (byte_len w) len, wide.again n lt) refl

wide16 : IsWide w16 two_bytes (2 ^ 16)
unfolding two_bytes
wide16 = record {
  len = λ n. refl;
  back = λ bytes len fits. be_bytes_2 bytes _ len fits refl;
  again = λ n lt. from_be_bytes-to_be_bytes_2 n lt;
  below = λ bytes fits. omega (arith, fits 0, fits 1);
}

wide32 : IsWide w32 four_bytes (2 ^ 32)
unfolding four_bytes
wide32 = record {
  len = λ n. refl;
  back = λ bytes len fits. be_bytes_4 bytes _ len fits refl;
  again = λ n lt. from_be_bytes-to_be_bytes_4 n lt;
  below = λ bytes fits. omega (arith, fits 0, fits 1, fits 2, fits 3);
}

wide64 : IsWide w64 eight_bytes (2 ^ 64)
unfolding eight_bytes
wide64 = record {
  len = λ n. refl;
  back = λ bytes len fits. be_bytes_8 bytes _ len fits refl;
  again = λ n lt. from_be_bytes-to_be_bytes_8 n lt;
  below = λ bytes fits. omega (arith, fits 0, fits 1, fits 2, fits 3, fits 4, fits 5, fits 6, fits 7);
}

pub two_format : IsReadAs two_bytes two_at (λ n. n < 2 ^ 16)
two_format = record { takes = number_takes w16 two_bytes (2 ^ 16) wide16; again = number_again w16 two_bytes (2 ^ 16) wide16 }

pub four_format : IsReadAs four_bytes four_at (λ n. n < 2 ^ 32)
four_format = record { takes = number_takes w32 four_bytes (2 ^ 32) wide32; again = number_again w32 four_bytes (2 ^ 32) wide32 }

pub eight_format : IsReadAs eight_bytes eight_at (λ n. n < 2 ^ 64)
eight_format = record { takes = number_takes w64 eight_bytes (2 ^ 64) wide64; again = number_again w64 eight_bytes (2 ^ 64) wide64 }

-- ---- texts

text_takes : (bytes text rest : List ℕ) → IsBytes bytes → text_at bytes ≡ Some (text, rest) → Takes bytes (text_bytes text) rest × IsText text
unfolding text_at
text_takes bytes text rest fits e =
    let b = bind_some (four_at bytes) (λ n. cond (ltb (length n.1) n.0) None (cond (is_utf8 (take n.0 n.1)) (Some (take n.0 n.1, drop n.0 n.1)) None)) (text, rest) e in
    let n = b.0 in
    let t = four_format.takes bytes n.0 n.1 fits b.1 in
    let g = guard_some (ltb (length n.1) n.0) (cond (is_utf8 (take n.0 n.1)) (Some (take n.0 n.1, drop n.0 n.1)) None) (text, rest) b.2 in
    let u = allowed_some (is_utf8 (take n.0 n.1)) (Some (take n.0 n.1, drop n.0 n.1)) (text, rest) g.1 in
    let long : n.0 ≤ length n.1 = ltb-false _ _ g.0 in
    let len : length (take n.0 n.1) ≡ n.0 = omega (arith, length-take n.0 n.1) in
    let second : Takes n.1 (take n.0 n.1) (drop n.0 n.1) = record { parts = sym (take-append-drop n.0 n.1); rest_fits = IsBytes-drop n.0 n.1 t.0.rest_fits } in
    let both = Takes-then bytes (four_bytes n.0) n.1 (take n.0 n.1) (drop n.0 n.1) t.0 second in
    let whole : Takes bytes (text_bytes (take n.0 n.1)) (drop n.0 n.1) = subst (λ (k : ℕ). Takes bytes (four_bytes k ++ take n.0 n.1) (drop n.0 n.1)) (sym len) both in
    subst (λ (p : List ℕ × List ℕ). Takes bytes (text_bytes p.0) p.1 × IsText p.0) (some_is (take n.0 n.1, drop n.0 n.1) (text, rest) u.1) (whole, (omega (arith, t.1), u.0))

text_again : (text rest : List ℕ) → IsText text → text_at (text_bytes text ++ rest) ≡ Some (text, rest)
unfolding text_at
text_again text rest fits =
    let long : ltb (length (text ++ rest)) (length text) ≡ false = le-ltb _ _ (omega (arith, length-append text rest)) in
    let regrouped : text_bytes text ++ rest ≡ four_bytes (length text) ++ (text ++ rest) = append_assoc (four_bytes (length text)) text rest in
    ap text_at regrouped ∙ rw (four_format.again (length text) (text ++ rest) fits.0, long, take_at text rest (length text) refl, drop_at text rest (length text) refl, fits.1) refl

pub text_format : IsReadAs text_bytes text_at IsText
text_format = record { takes = text_takes; again = text_again }

-- ---- truth values

flag_takes : (bytes : List ℕ) (flag : Bool) (rest : List ℕ) → IsBytes bytes → flag_at bytes ≡ Some (flag, rest) → Takes bytes (flag_bytes flag) rest × Unit {0}
unfolding flag_at
flag_takes [] flag rest fits e = absurd cc
flag_takes (zero ∷ bytes) flag rest fits e =
    subst (λ (x : Bool × List ℕ). Takes (0 ∷ bytes) (flag_bytes x.0) x.1 × Unit {0}) (some_is (false, bytes) (flag, rest) e) (record { parts = refl; rest_fits = IsBytes-rest 0 bytes fits }, tt)
flag_takes (suc zero ∷ bytes) flag rest fits e =
    subst (λ (x : Bool × List ℕ). Takes (1 ∷ bytes) (flag_bytes x.0) x.1 × Unit {0}) (some_is (true, bytes) (flag, rest) e) (record { parts = refl; rest_fits = IsBytes-rest 1 bytes fits }, tt)
flag_takes (suc (suc b) ∷ bytes) flag rest fits e = absurd cc

flag_again : (flag : Bool) (rest : List ℕ) → Unit {0} → flag_at (flag_bytes flag ++ rest) ≡ Some (flag, rest)
unfolding flag_at
flag_again true rest fits = refl
flag_again false rest fits = refl

pub flag_format : IsReadAs flag_bytes flag_at (λ flag. Unit {0})
flag_format = record { takes = flag_takes; again = flag_again }

-- ---- pairs, and values that are made of others

pub pair_format : {A B : Type 0} {s : A → List ℕ} {a : List ℕ → Option (A × List ℕ)} {f : A → Type 0} {t : B → List ℕ} {b : List ℕ → Option (B × List ℕ)} {g : B → Type 0}
    → IsReadAs s a f → IsReadAs t b g → IsReadAs (λ (p : A × B). s p.0 ++ t p.1) (pair_at a b) (λ (p : A × B). f p.0 × g p.1)
pair_format {A = A} {B = B} {s = s} {a = a} {f = f} {t = t} {b = b} {g = g} one two = record {
  takes = λ bytes p rest fits e.
      let x = bind_some (a bytes) (λ (x : A × List ℕ). b x.1 >>= λ (y : B × List ℕ). Some ((x.0, y.0), y.1)) (p, rest) e in
      let y = bind_some (b x.0.1) (λ (y : B × List ℕ). Some ((x.0.0, y.0), y.1)) (p, rest) x.2 in
      let first = one.takes bytes x.0.0 x.0.1 fits x.1 in
      let second = two.takes x.0.1 y.0.0 y.0.1 first.0.rest_fits y.1 in
      subst (λ (q : (A × B) × List ℕ). Takes bytes (s q.0.0 ++ t q.0.1) q.1 × (f q.0.0 × g q.0.1)) (some_is ((x.0.0, y.0.0), y.0.1) (p, rest) y.2)
      (Takes-then bytes (s x.0.0) x.0.1 (t y.0.0) y.0.1 first.0 second.0, (first.1, second.1));
  again = λ p rest fits. ap (pair_at a b) (append_assoc (s p.0) (t p.1) rest)
      ∙ rw (one.again p.0 (t p.1 ++ rest) fits.0, two.again p.1 rest fits.1) refl;
}

pub made_format : {A B : Type 0} {s : A → List ℕ} {a : List ℕ → Option (A × List ℕ)} {f : A → Type 0} (make : A → B) (part : B → A)
    → ((x : A) → part (make x) ≡ x) → ((y : B) → make (part y) ≡ y) → IsReadAs s a f → IsReadAs (λ y. s (part y)) (made_at make a) (λ y. f (part y))
made_format {A = A} {B = B} {s = s} {a = a} {f = f} make part back forth one = record {
  takes = λ bytes y rest fits e.
      let x = bind_some (a bytes) (λ (x : A × List ℕ). Some (make x.0, x.1)) (y, rest) e in
      let first = one.takes bytes x.0.0 x.0.1 fits x.1 in
      subst (λ (q : B × List ℕ). Takes bytes (s (part q.0)) q.1 × f (part q.0)) (some_is (make x.0.0, x.0.1) (y, rest) x.2)
      (subst (λ (p : A). Takes bytes (s p) x.0.1 × f p) (sym (back x.0.0)) first);
  again = λ y rest fits. rw (one.again (part y) rest fits) (ap (λ (z : B). Some (z, rest)) (forth y));
}

-- a value that is made of another one, of those that are as they are made
pub made_good_format : {A B : Type 0} {s : A → List ℕ} {a : List ℕ → Option (A × List ℕ)} {f : A → Type 0} (make : A → B) (part : B → A) (good : B → Type 0)
    → ((x : A) → part (make x) ≡ x) → ((x : A) → good (make x)) → ((y : B) → good y → make (part y) ≡ y) → IsReadAs s a f
    → IsReadAs (λ y. s (part y)) (made_at make a) (λ y. f (part y) × good y)
made_good_format {A = A} {B = B} {s = s} {a = a} {f = f} make part good back made_good forth one = record {
  takes = λ bytes y rest fits e.
      let x = bind_some (a bytes) (λ (x : A × List ℕ). Some (make x.0, x.1)) (y, rest) e in
      let first = one.takes bytes x.0.0 x.0.1 fits x.1 in
      let whole : Takes bytes (s (part (make x.0.0))) x.0.1 × f (part (make x.0.0)) = subst (λ (p : A). Takes bytes (s p) x.0.1 × f p) (sym (back x.0.0)) first in
      subst (λ (q : B × List ℕ). Takes bytes (s (part q.0)) q.1 × (f (part q.0) × good q.0)) (some_is (make x.0.0, x.0.1) (y, rest) x.2)
      (whole.0, (whole.1, made_good x.0.0));
  again = λ y rest fits. rw (one.again (part y) rest fits.0) (ap (λ (z : B). Some (z, rest)) (forth y fits.1));
}

-- ---- alternatives, each after its own first byte

-- a row of a table: its byte comes before what its reader finds
abbrev pub IsRow : {A : Type 0} → (A → List ℕ) → (A → Type 0) → ℕ × (List ℕ → Option (A × List ℕ)) → Type 0
IsRow {A = A} spell fits row = (bytes : List ℕ) (x : A) (rest : List ℕ) → IsBytes bytes → row.1 bytes ≡ Some (x, rest) → Takes (row.0 ∷ bytes) (spell x) rest × fits x

pub row_of : {A B : Type 0} {s : A → List ℕ} {a : List ℕ → Option (A × List ℕ)} {f : A → Type 0} → IsReadAs s a f → (spell : B → List ℕ) (fits : B → Type 0) (kind : ℕ) (make : A → B)
    → ((x : A) → spell (make x) ≡ kind ∷ s x) → ((x : A) → f x → fits (make x)) → IsRow spell fits (kind, made_at make a)
row_of {A = A} {B = B} {s = s} {a = a} {f = f} one spell fits kind make is_spelled made_fits bytes y rest bytes_fit e =
    let x = bind_some (a bytes) (λ (x : A × List ℕ). Some (make x.0, x.1)) (y, rest) e in
    let first = one.takes bytes x.0.0 x.0.1 bytes_fit x.1 in
    let whole : Takes (kind ∷ bytes) (spell (make x.0.0)) x.0.1 = rw (is_spelled x.0.0) (Takes-after kind bytes (s x.0.0) x.0.1 first.0) in
    subst (λ (q : B × List ℕ). Takes (kind ∷ bytes) (spell q.0) q.1 × fits q.0) (some_is (make x.0.0, x.0.1) (y, rest) x.2) (whole, made_fits x.0.0 first.1)

pub nothing_row : {A : Type 0} (spell : A → List ℕ) (fits : A → Type 0) (kind : ℕ) (x : A) → spell x ≡ kind ∷ [] → fits x → IsRow spell fits (kind, nothing_at x)
nothing_row {A = A} spell fits kind x is ok bytes y rest bytes_fit e =
    let whole : Takes (kind ∷ bytes) (spell x) bytes = rw is (record { parts = refl; rest_fits = bytes_fit }) in
    subst (λ (q : A × List ℕ). Takes (kind ∷ bytes) (spell q.0) q.1 × fits q.0) (some_is (x, bytes) (y, rest) e) (whole, ok)

pub made_again : {A B : Type 0} {s : A → List ℕ} {a : List ℕ → Option (A × List ℕ)} {f : A → Type 0} → IsReadAs s a f → (make : A → B) (x : A) (rest : List ℕ) → f x
    → made_at make a (s x ++ rest) ≡ Some (make x, rest)
made_again one make x rest fits = rw (one.again x rest fits) refl

pub choice_takes : {A : Type 0} (spell : A → List ℕ) (fits : A → Type 0) (rows : List (ℕ × (List ℕ → Option (A × List ℕ)))) (k : ℕ) (bytes : List ℕ) (x : A) (rest : List ℕ)
    → AllByRecursion (IsRow spell fits) rows → IsBytes bytes → choice_at rows k bytes ≡ Some (x, rest) → Takes (k ∷ bytes) (spell x) rest × fits x
choice_takes spell fits [] k bytes x rest each bytes_fit e = absurd cc
choice_takes spell fits (row ∷ rows) k bytes x rest each bytes_fit e =
    elim (cond_is (eqb k row.0) (row.1 bytes) (choice_at rows k bytes) (Some (x, rest)) e) [
      | inl h ↦ subst (λ (n : ℕ). Takes (n ∷ bytes) (spell x) rest × fits x) (sym (eqb-true k row.0 h.0)) (each.0 bytes x rest bytes_fit h.1)
      | inr h ↦ choice_takes spell fits rows k bytes x rest each.1 bytes_fit h.1
    ]

-- ---- what may be missing

optional_takes : {A : Type 0} (s : A → List ℕ) (a : List ℕ → Option (A × List ℕ)) (f : A → Type 0) → IsReadAs s a f → (bytes : List ℕ) (o : Option A) (rest : List ℕ)
    → IsBytes bytes → optional_at a bytes ≡ Some (o, rest) → Takes bytes (optional_bytes s o) rest × IsOptional f o
unfolding optional_at
optional_takes s a f one [] o rest fits e = absurd cc
optional_takes {A = A} s a f one (zero ∷ bytes) o rest fits e =
    subst (λ (x : Option A × List ℕ). Takes (0 ∷ bytes) (optional_bytes s x.0) x.1 × IsOptional f x.0) (some_is (None, bytes) (o, rest) e) (record { parts = refl; rest_fits = IsBytes-rest 0 bytes fits }, tt)
optional_takes {A = A} s a f one (suc zero ∷ bytes) o rest fits e =
    let x = bind_some (a bytes) (λ (x : A × List ℕ). Some (Some x.0, x.1)) (o, rest) e in
    let first = one.takes bytes x.0.0 x.0.1 (IsBytes-rest 1 bytes fits) x.1 in
    subst (λ (x : Option A × List ℕ). Takes (1 ∷ bytes) (optional_bytes s x.0) x.1 × IsOptional f x.0) (some_is (Some x.0.0, x.0.1) (o, rest) x.2)
    (Takes-after 1 bytes (s x.0.0) x.0.1 first.0, first.1)
optional_takes s a f one (suc (suc b) ∷ bytes) o rest fits e = absurd cc

optional_again : {A : Type 0} (s : A → List ℕ) (a : List ℕ → Option (A × List ℕ)) (f : A → Type 0) → IsReadAs s a f → (o : Option A) (rest : List ℕ) → IsOptional f o
    → optional_at a (optional_bytes s o ++ rest) ≡ Some (o, rest)
unfolding optional_at
optional_again s a f one None rest fits = refl
optional_again s a f one (Some x) rest fits = rw (one.again x rest fits) refl

pub optional_format : {A : Type 0} {s : A → List ℕ} {a : List ℕ → Option (A × List ℕ)} {f : A → Type 0} → IsReadAs s a f
    → IsReadAs (optional_bytes s) (optional_at a) (IsOptional f)
optional_format {A = A} {s = s} {a = a} {f = f} one = record {
  takes = optional_takes s a f one;
  again = λ x rest fits. optional_again s a f one x rest fits;
}

-- ---- lists

pub items_take : {A : Type 0} {s : A → List ℕ} {a : List ℕ → Option (A × List ℕ)} {f : A → Type 0} → IsReadAs s a f → (n : ℕ) (bytes : List ℕ) (xs : List A) (rest : List ℕ)
    → IsBytes bytes → items_at a n bytes ≡ Some (xs, rest) → Takes bytes (flat_map s xs) rest × (length xs ≡ n) × AllByRecursion f xs
unfolding items_at
items_take {A = A} {s = s} {a = a} {f = f} one zero bytes xs rest fits e =
    subst (λ (y : List A × List ℕ). Takes bytes (flat_map s y.0) y.1 × (length y.0 ≡ 0) × AllByRecursion f y.0) (some_is ([], bytes) (xs, rest) e) (record { parts = refl; rest_fits = fits }, refl, tt)
items_take {A = A} {s = s} {a = a} {f = f} one (suc n) bytes xs rest fits e =
    let x = bind_some (a bytes) (λ (first : A × List ℕ). items_at a n first.1 >>= λ (others : List A × List ℕ). Some (first.0 ∷ others.0, others.1)) (xs, rest) e in
    let y = bind_some (items_at a n x.0.1) (λ (others : List A × List ℕ). Some (x.0.0 ∷ others.0, others.1)) (xs, rest) x.2 in
    let first = one.takes bytes x.0.0 x.0.1 fits x.1 in
    let second = items_take one n x.0.1 y.0.0 y.0.1 first.0.rest_fits y.1 in
    let both = Takes-then bytes (s x.0.0) x.0.1 (flat_map s y.0.0) y.0.1 first.0 second.0 in
    subst (λ (y : List A × List ℕ). Takes bytes (flat_map s y.0) y.1 × (length y.0 ≡ suc n) × AllByRecursion f y.0) (some_is (x.0.0 ∷ y.0.0, y.0.1) (xs, rest) y.2)
    (rw flat_map-cons both, ap suc second.1, (first.1, second.2))

pub items_again : {A : Type 0} {s : A → List ℕ} {a : List ℕ → Option (A × List ℕ)} {f : A → Type 0} → IsReadAs s a f → (xs : List A) (rest : List ℕ) → AllByRecursion f xs
    → items_at a (length xs) (flat_map s xs ++ rest) ≡ Some (xs, rest)
unfolding items_at
items_again one [] rest fits = refl
items_again {s = s} {a = a} one (x ∷ xs) rest fits =
    let regrouped : flat_map s (x ∷ xs) ++ rest ≡ s x ++ (flat_map s xs ++ rest) = ap (λ (t : List ℕ). t ++ rest) (flat_map-cons s x xs) ∙ append_assoc (s x) (flat_map s xs) rest in
    ap (items_at a (suc (length xs))) regrouped ∙ rw (one.again x (flat_map s xs ++ rest) fits.0, items_again one xs rest fits.1) refl

pub list_format : {A : Type 0} {s : A → List ℕ} {a : List ℕ → Option (A × List ℕ)} {f : A → Type 0} → IsReadAs s a f → IsReadAs (list_bytes s) (list_at a) (IsList f)
list_format {A = A} {s = s} {a = a} {f = f} one = record {
  takes = λ bytes xs rest fits e.
      let n = bind_some (four_at bytes) (λ (n : ℕ × List ℕ). items_at a n.0 n.1) (xs, rest) e in
      let first = four_format.takes bytes n.0.0 n.0.1 fits n.1 in
      let second = items_take one n.0.0 n.0.1 xs rest first.0.rest_fits n.2 in
      let both = Takes-then bytes (four_bytes n.0.0) n.0.1 (flat_map s xs) rest first.0 second.0 in
      (subst (λ (k : ℕ). Takes bytes (four_bytes k ++ flat_map s xs) rest) (sym second.1) both, (omega (arith, second.1, first.1), second.2));
  again = λ xs rest fits. ap (list_at a) (append_assoc (four_bytes (length xs)) (flat_map s xs) rest)
      ∙ rw (four_format.again (length xs) (flat_map s xs ++ rest) fits.0) (items_again one xs rest fits.1);
}
