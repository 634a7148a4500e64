-- Options of a line as `clap` knows them (`good`), and what is found of them: `first_of_options`, `given_options`.
use Rattle.std.proofs.Common.{◌≡◌, ◌∙◌, ◌||◌, Bool, cond, true, false, refl, sym, ap, ap₂, subst, List, [], ◌∷◌, ◌++◌, map, Option, Some, None, is_some, true≢false, slice_get}
use Rattle.std.specs.Prelude.{find, option_and_then, Contains}
use Rattle.std.specs.Option.{option_map_or}
use Rattle.clap.specs.Facts.{explicit_source}
use Rattle.std.specs.Str.{bytes_eq}
use Rattle.std.proofs.lemmas.Slice.Eq.{bytes_eq-Decides}
use Rattle.clap.specs.Simple.{Shape}
use Rattle.clap.specs.Takes.{is_given, value_passes}
use Rattle.clap.specs.Walk.{Row, Rule, Text, first_of, has_row}
use Rattle.command_line.specs.Line.{AreOptions, IsValue, value_of, words_of}
use Rattle.command_line.proofs.StepLemmas.{AreGood, Fits, Given, IsPending, row_of, rows_for, with_row, words_for}

-- an option that the subcommand has, whose values pass
abbrev pub Has : Shape → Text → Type 0
Has s name = (a : Rule) × (a.id ≡ name) × Fits s.rules a × ((v : Text) → IsValue v → value_passes a v ≡ true)

abbrev pub pairs : List Given → List (Text × Text)
pairs gs = map (λ g. (g.0.id, g.1)) gs

split : (a b : Bool) → (a || b) ≡ false → (a ≡ false) × (b ≡ false)
split true b h = absurd (true≢false h)
split false b h = (refl, h)

apart : (x y : Text) → bytes_eq x y ≡ false → bytes_eq y x ≡ false
apart x y h = go (bytes_eq y x) refl
  where
    go : (b : Bool) → bytes_eq y x ≡ b → b ≡ false
    go true is = absurd (true≢false (sym ((bytes_eq-Decides x y).1 (sym ((bytes_eq-Decides y x).0 is))) ∙ h))
    go false is = refl

rows_join : (id : Text) (xs ys : List Row) → has_row id xs ≡ false → has_row id ys ≡ false → has_row id (xs ++ ys) ≡ false
rows_join id [] ys e f = f
rows_join id (x ∷ xs) ys e f =
    let parts = split (bytes_eq x.id id) (has_row id xs) e in
    ap₂ (λ (p q : Bool). p || q) parts.0 (rows_join id xs ys parts.1 f)

-- the name of no option has a row
abbrev IsApart : List Row → List (Text × Text) → Type 0
IsApart rows [] = Unit {0}
IsApart rows (o ∷ os) = (has_row o.0 rows ≡ false) × IsApart rows os

-- a name without a value is not the first name, and has none after it
no_value : (name : Text) (o : Text × Text) (os : List (Text × Text)) → value_of name (o ∷ os) ≡ None → (bytes_eq o.0 name ≡ false) × (value_of name os ≡ None)
no_value name o os h = go (bytes_eq o.0 name) refl h
  where
    go : (b : Bool) → bytes_eq o.0 name ≡ b → cond b (Some o.1) (value_of name os) ≡ None → (bytes_eq o.0 name ≡ false) × (value_of name os ≡ None)
    go true is e = absurd (true≢false (ap is_some e))
    go false is e = (is, e)

apart_next : (rows : List Row) (a : Rule) (v : Text) (os : List (Text × Text)) → IsApart rows os → value_of a.id os ≡ None → IsApart (rows ++ row_of a v ∷ []) os
apart_next rows a v [] h none = tt
apart_next rows a v (o ∷ os) h none =
    let parts = no_value a.id o os none in
    let other : has_row o.0 (row_of a v ∷ []) ≡ false = ap (λ (b : Bool). b || false) (apart o.0 a.id parts.0) in
    (rows_join o.0 rows (row_of a v ∷ []) h.0 other, apart_next rows a v os h.1 parts.1)

apart_none : (os : List (Text × Text)) → IsApart [] os
apart_none [] = tt
apart_none (o ∷ os) = (refl, apart_none os)

abbrev pub Goods : Shape → List Row → Option Given → List (Text × Text) → Type 0
Goods s rows p os = (gs : List Given) × (words_of os ≡ words_for gs) × (os ≡ pairs gs) × AreGood s rows p gs

goods : (s : Shape) (names : List Text) (pick : (name : Text) → Contains names name → Has s name) (rows : List Row) (p : Option Given)
    (os : List (Text × Text)) → IsPending s rows p → IsApart (with_row rows p) os → AreOptions names os → Goods s rows p os
goods s names pick rows p [] pending apart_of h = ([], refl, refl, pending)
goods s names pick rows p ((n, v) ∷ os) pending apart_of h = go (pick n h.0)
    (λ a is fits pass.
    goods s names pick (with_row rows p) (Some (a, v)) os
    (fits, subst (λ (i : Text). has_row i (with_row rows p) ≡ false) (sym is) apart_of.0, pass v h.2)
    (apart_next (with_row rows p) a v os apart_of.1 (subst (λ (i : Text). value_of i os ≡ None) (sym is) h.1)) h.3)
  where
    go : (has : Has s n)
        → ((a : Rule) → a.id ≡ n → Fits s.rules a → ((w : Text) → IsValue w → value_passes a w ≡ true) → Goods s (with_row rows p) (Some (a, v)) os)
        → Goods s rows p ((n, v) ∷ os)
    go has more =
        let rest = more has.0 has.1 has.2 has.3 in
        ((has.0, v) ∷ rest.0, (λ i. (45 ∷ (45 ∷ sym has.1 i)) ∷ (v ∷ rest.1 i)), (λ i. (sym has.1 i, v) ∷ rest.2 i), (pending, has.2, h.2, rest.3))

pub good : (s : Shape) (names : List Text) (pick : (name : Text) → Contains names name → Has s name) (os : List (Text × Text))
    → AreOptions names os → Goods s [] None os
good s names pick os h = goods s names pick [] None os tt (apart_none os) h

-- ---- what is found of them

pub first_of_options : (gs : List Given) (name : Text) → first_of name (rows_for gs) ≡ value_of name (pairs gs)
first_of_options [] name = refl
first_of_options (g ∷ gs) name = go (bytes_eq g.0.id name) (first_of_options gs name)
  where
    go : (b : Bool) → first_of name (rows_for gs) ≡ value_of name (pairs gs)
        → option_and_then (λ (r : Row). slice_get r.values 0) (cond b (Some (row_of g.0 g.1)) (find (λ r. bytes_eq r.id name) (rows_for gs)))
        ≡ cond b (Some g.1) (value_of name (pairs gs))
    go true e = refl
    go false e = e

pub given_options : (gs : List Given) (name : Text) → is_given name (rows_for gs) ≡ is_some (value_of name (pairs gs))
given_options [] name = refl
given_options (g ∷ gs) name = go (bytes_eq g.0.id name) (given_options gs name)
  where
    go : (b : Bool) → is_given name (rows_for gs) ≡ is_some (value_of name (pairs gs))
        → option_map_or (λ (r : Row). explicit_source r.source) (cond b (Some (row_of g.0 g.1)) (find (λ r. bytes_eq r.id name) (rows_for gs))) false
        ≡ is_some (cond b (Some g.1) (value_of name (pairs gs)))
    go true e = refl
    go false e = e
