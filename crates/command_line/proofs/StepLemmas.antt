-- Options of a subcommand, one after the other: what `clap` holds after the name of an option (`named`) and after its value (`valued`),
-- and after all (`walk_all`), with one row for each (`settled_end`, `rows_are`).
use Rattle.std.proofs.Common.{◌≡◌, ◌∙◌, ◌==◌, ◌||◌, ℕ, Bool, true, false, refl, sym, ap, List, [], ◌∷◌, ◌++◌, map, Option, Some, None, append_assoc, append-nil, true≢false}
use Rattle.std.specs.List.{fold}
use Rattle.std.specs.Prelude.{option_map}
use Rattle.std.specs.Str.{bytes_eq}
use Rattle.clap.specs.Lexer.{long_of}
use Rattle.clap.specs.Simple.{Shape}
use Rattle.clap.specs.Takes.{value_passes}
use Rattle.clap.specs.Walk.{Row, Rule, Text, Walk, arg_by_id, arg_by_long, at_row, has_row, idle, more_values, option, reading_by, settled, settled_rows, walked, without}
use Rattle.clap.specs.declared.builder.action.ArgAction.TheVariants.{Set}
use Rattle.clap.specs.declared.parser.matches.ValueSource.TheVariants.{CommandLine}
use Rattle.command_line.specs.Line.{IsValue}

-- between two options
abbrev pub at : List Row → Option (Text × List Text) → Walk
at rows p = record { held = record { rows = rows; pending = p; skip = 0 }; waiting = idle; position = 1; is_trailing = false; stopped = None }

-- after an option's name
abbrev pub waits : List Row → Text → Walk
waits rows id = record { held = record { rows = rows; pending = Some (id, []); skip = 0 }; waiting = option id; position = 1; is_trailing = false; stopped = None }

abbrev pub word_for : Rule → Text
word_for a = 45 ∷ (45 ∷ a.id)

-- an option with one value, among these
pub record Fits (c : List Rule) (a : Rule) : Type 0 where
  pub dashes : bytes_eq (word_for a) (45 ∷ 45 ∷ []) ≡ false
  pub long : long_of (word_for a) ≡ Some (a.id, None)
  pub by_long : arg_by_long c a.id ≡ Some a
  pub by_id : arg_by_id c a.id ≡ Some a
  pub same : bytes_eq a.id a.id ≡ true
  pub range : a.range ≡ Some (record { start_inclusive = 1; end_inclusive = 1 })
  pub action : a.action ≡ Some Set

pub named : (c : List Rule) (a : Rule) (rows : List Row) (p : Option (Text × List Text)) → Fits c a
    → walked c [] (at rows p) (word_for a) ≡ waits (settled_rows c p rows) a.id
unfolding walked
named c a rows p f = rw (f.dashes, f.long, f.by_long, f.range) refl

pub valued : (c : List Rule) (a : Rule) (rows : List Row) (b : ℕ) (v : Text) → Fits c a → (b == 45) ≡ false
    → walked c [] (waits rows a.id) (b ∷ v) ≡ at rows (Some (a.id, (b ∷ v) ∷ []))
unfolding walked
valued c a rows b v f h = rw (h, h, f.by_id, f.same, f.range) refl

-- ---- rows

abbrev pub row_of : Rule → Text → Row
row_of a v = record { id = a.id; values = v ∷ []; count = None; source = Some CommandLine; reading = reading_by a }

fresh : (id : Text) (change : Row → List Row) (missing rows : List Row) → has_row id rows ≡ false → at_row id change missing rows ≡ rows ++ missing
fresh id change missing [] e = refl
fresh id change missing (r ∷ rs) e = go (bytes_eq r.id id) refl e (λ h. fresh id change missing rs h)
  where
    go : (b : Bool) → bytes_eq r.id id ≡ b → (b || has_row id rs) ≡ false
        → (has_row id rs ≡ false → at_row id change missing rs ≡ rs ++ missing) → at_row id change missing (r ∷ rs) ≡ r ∷ (rs ++ missing)
    go true is h more = absurd (true≢false h)
    go false is h more = rw is (ap (λ (t : List Row). r ∷ t) (more h))

settles : (c : List Rule) (a : Rule) (v : Text) (rows : List Row) → Fits c a → has_row a.id rows ≡ false
    → settled_rows c (Some (a.id, v ∷ [])) rows ≡ rows ++ row_of a v ∷ []
settles c a v rows f e =
    let none : without a.id rows ≡ rows = fresh a.id (λ _. []) [] rows e ∙ append-nil rows in
    rw (f.by_id, f.action, none) (fresh a.id (more_values CommandLine (v ∷ [])) (row_of a v ∷ []) rows e)

-- ---- all options

abbrev pub Given : Type 0
Given = Rule × Text

abbrev pub pend : Option Given → Option (Text × List Text)
pend = option_map (λ o. (o.0.id, o.1 ∷ []))

abbrev pub with_row : List Row → Option Given → List Row
with_row rows None = rows
with_row rows (Some o) = rows ++ row_of o.0 o.1 ∷ []

abbrev pub words_for : List Given → List Text
words_for [] = []
words_for (o ∷ os) = word_for o.0 ∷ (o.1 ∷ words_for os)

abbrev pub after : List Row → Option Given → List Given → Walk
after rows p [] = at rows (pend p)
after rows p (o ∷ os) = after (with_row rows p) (Some o) os

-- the pending option settles
abbrev pub IsPending : Shape → List Row → Option Given → Type 0
IsPending s rows None = Unit {0}
IsPending s rows (Some o) = Fits s.rules o.0 × (has_row o.0.id rows ≡ false) × (value_passes o.0 o.1 ≡ true)

abbrev pub AreGood : Shape → List Row → Option Given → List Given → Type 0
AreGood s rows p [] = IsPending s rows p
AreGood s rows p (o ∷ os) = IsPending s rows p × Fits s.rules o.0 × IsValue o.1 × AreGood s (with_row rows p) (Some o) os

pub settled_as : (s : Shape) (rows : List Row) (p : Option Given) → IsPending s rows p → settled_rows s.rules (pend p) rows ≡ with_row rows p
settled_as s rows None h = refl
settled_as s rows (Some (a, v)) h = settles s.rules a v rows h.0 h.1

pair_walk : (s : Shape) (rows : List Row) (p : Option Given) (a : Rule) (v : Text) → IsPending s rows p → Fits s.rules a → IsValue v
    → walked s.rules [] (walked s.rules [] (at rows (pend p)) (word_for a)) v ≡ at (with_row rows p) (pend (Some (a, v)))
pair_walk s rows p a [] h f isv = absurd isv
pair_walk s rows p a (b ∷ v) h f isv =
    ap (λ (w : Walk). walked s.rules [] w (b ∷ v)) (named s.rules a rows (pend p) f ∙ ap (λ (r : List Row). waits r a.id) (settled_as s rows p h))
    ∙ valued s.rules a (with_row rows p) b v f isv

pub walk_all : (s : Shape) (rows : List Row) (p : Option Given) (os : List Given) → AreGood s rows p os
    → fold (walked s.rules []) (at rows (pend p)) (words_for os) ≡ after rows p os
walk_all s rows p [] h = refl
walk_all s rows p ((a, v) ∷ os) h =
    ap (λ (w : Walk). fold (walked s.rules []) w (words_for os)) (pair_walk s rows p a v h.0 h.1 h.2) ∙ walk_all s (with_row rows p) (Some (a, v)) os h.3

-- one row for each option
abbrev pub rows_for : List Given → List Row
rows_for gs = map (λ g. row_of g.0 g.1) gs

rows_after_all : (s : Shape) (rows : List Row) (p : Option Given) (gs : List Given) → AreGood s rows p gs
    → (settled s.rules (after rows p gs).held).rows ≡ with_row rows p ++ rows_for gs
rows_after_all s rows p [] h = settled_as s rows p h ∙ sym (append-nil (with_row rows p))
rows_after_all s rows p (g ∷ gs) h =
    rows_after_all s (with_row rows p) (Some g) gs h.3 ∙ append_assoc (with_row rows p) (row_of g.0 g.1 ∷ []) (rows_for gs)

pub rows_are : (s : Shape) (gs : List Given) → AreGood s [] None gs → (settled s.rules (after [] None gs).held).rows ≡ rows_for gs
rows_are s gs h = rows_after_all s [] None gs h
