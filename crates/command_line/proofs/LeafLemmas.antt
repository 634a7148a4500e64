-- A subcommand that has such options: it has no fault (`leaf_faultless`), and its rows are theirs (`leaf_rows`).
use Rattle.std.proofs.Common.{◌≡◌, ◌∙◌, ◌==◌, ◌&&◌, ◌||◌, not, ℕ, suc, Bool, cond, length, arith, true, false, refl, ap, List, [], ◌∷◌, Option, Some, None}
use Rattle.std.specs.List.{fold, list_all, list_any}
use Rattle.std.proofs.lemmas.Bool.Decides.{nat_tests}
use Rattle.clap.specs.Faults.{check_fault, default_fault, defaults_fault, given_default_fault, level_fault, settle_fault, turn_fault, walk_fault}
use Rattle.clap.specs.Kinds.{Kinds, or_else}
use Rattle.clap.specs.Simple.{Shape}
use Rattle.clap.specs.Takes.{is_given, value_passes}
use Rattle.clap.specs.Walk.{Row, Rule, Text, Walk, default_rows, finished, has_row, is_empty, nothing_held, reading_by, rows_after, settled, walk, walked, with_default}
use Rattle.clap.specs.declared.builder.value_parser.Reading.{Reading}
use Rattle.clap.proofs.WalkLemmas.{both}
use Rattle.command_line.proofs.StepLemmas.{AreGood, Fits, Given, IsPending, after, at, named, pend, rows_are, rows_for, settled_as, valued, waits, walk_all, with_row, word_for, words_for}

-- a built subcommand without defaults and without wishes of its own
pub record IsPlainLeaf (s : Shape) : Type 0 where
  pub defaults : list_all (λ a. is_empty a.defaults) s.rules ≡ true
  pub help : s.arg_required_else_help ≡ false
  pub subcommand : s.subcommand_required ≡ false
  pub negates : s.subcommand_negates_reqs ≡ false

-- no required option is missing in these rows
abbrev pub HasRequired : List Rule → (Text → Bool) → Type 0
HasRequired c given = list_any (λ a. a.required && not (given a.id)) c ≡ false

-- ---- no word is a fault

name_faults : (s : Shape) (a : Rule) (rows : List Row) (p : Option (Text × List Text)) → Fits s.rules a
    → settle_fault s.rules s.args_override_self (at rows p).held ≡ [] → turn_fault s [] (at rows p) (word_for a) ≡ []
name_faults s a rows p f e = rw (f.dashes, f.long, f.by_long, f.range) (ap (λ (k : Kinds). or_else k []) e)

value_faults : (s : Shape) (a : Rule) (rows : List Row) (b : ℕ) (v : Text) → Fits s.rules a → (b == 45) ≡ false
    → turn_fault s [] (waits rows a.id) (b ∷ v) ≡ []
value_faults s a rows b v f h = rw (h, h) refl

settle_faults : (s : Shape) (a : Rule) (v : Text) (rows : List Row) → Fits s.rules a → has_row a.id rows ≡ false
    → value_passes a v ≡ true → settle_fault s.rules s.args_override_self (at rows (Some (a.id, v ∷ []))).held ≡ []
settle_faults s a v rows f e ok = rw (f.by_id, f.range, f.action, e, ok) refl

settles_faultless : (s : Shape) (rows : List Row) (p : Option Given) → IsPending s rows p
    → settle_fault s.rules s.args_override_self (at rows (pend p)).held ≡ []
settles_faultless s rows None h = refl
settles_faultless s rows (Some (a, v)) h = settle_faults s a v rows h.0 h.1 h.2

walk_faultless : (s : Shape) (rows : List Row) (p : Option Given) (os : List Given) → AreGood s rows p os
    → walk_fault s [] (at rows (pend p)) (words_for os) ≡ []
unfolding walk_fault
walk_faultless s rows p [] h = refl
walk_faultless s rows p ((a, []) ∷ os) h = absurd h.2
walk_faultless s rows p ((a, b ∷ v) ∷ os) h =
    let first = name_faults s a rows (pend p) h.1 (settles_faultless s rows p h.0) in
    let now : walked s.rules [] (at rows (pend p)) (word_for a) ≡ waits (with_row rows p) a.id = named s.rules a rows (pend p) h.1 ∙ ap (λ (r : List Row). waits r a.id) (settled_as s rows p h.0) in
    let second = value_faults s a (with_row rows p) b v h.1 h.2 in
    rw (first, now, second) (ap (λ (w : Walk). walk_fault s [] w (words_for os)) (valued s.rules a (with_row rows p) b v h.1 h.2) ∙ walk_faultless s (with_row rows p) (Some (a, b ∷ v)) os h.3)

last_settles : (s : Shape) (rows : List Row) (p : Option Given) (gs : List Given) → AreGood s rows p gs
    → settle_fault s.rules s.args_override_self (after rows p gs).held ≡ []
last_settles s rows p [] h = settles_faultless s rows p h
last_settles s rows p (g ∷ gs) h = last_settles s (with_row rows p) (Some g) gs h.3

-- ---- no default is set

or_true : (b : Bool) → (b || true) ≡ true
or_true true = refl
or_true false = refl

no_default_faults : (c : List Rule) (rows : List Row) → list_all (λ a. is_empty a.defaults) c ≡ true → defaults_fault rows c ≡ []
unfolding defaults_fault
no_default_faults [] rows e = refl
no_default_faults (a ∷ c) rows e =
    let parts = both (is_empty a.defaults) (list_all (λ b. is_empty b.defaults) c) e in
    let none : default_fault rows a ≡ [] = ap (λ (b : Bool). cond (has_row a.id rows || b) [] (given_default_fault a a.defaults)) parts.0
    ∙ ap (λ (b : Bool). cond b [] (given_default_fault a a.defaults)) (or_true (has_row a.id rows)) in
    ap (λ (k : Kinds). or_else k (defaults_fault (with_default rows a) c)) none ∙ no_default_faults c (with_default rows a) parts.1

pub no_defaults_fault : (c : List Rule) (rows : List Row) → list_all (λ a. is_empty a.defaults) c ≡ true → defaults_fault rows c ≡ []
no_defaults_fault c rows e = no_default_faults c rows e

same_either : {X : Type 0} (b : Bool) (x : X) → cond b x x ≡ x
same_either true x = refl
same_either false x = refl

not_zero : (n : ℕ) → (suc n == 0) ≡ true → ⊥
not_zero n e = let none : suc n ≡ 0 = grind (arith, nat_tests) in absurd (omega arith)

no_rows : (id : Text) (how : Reading) (ds : List Text) (rows : List Row) → is_empty ds ≡ true → default_rows id how ds rows ≡ rows
no_rows id how [] rows e = refl
no_rows id how (d ∷ ds) rows e = absurd (not_zero (length ds) e)

no_default_row : (rows : List Row) (a : Rule) → is_empty a.defaults ≡ true → with_default rows a ≡ rows
no_default_row rows a e = ap (cond (has_row a.id rows) rows) (no_rows a.id (reading_by a) a.defaults rows e) ∙ same_either (has_row a.id rows) rows

no_default_rows : (c : List Rule) (rows : List Row) → list_all (λ a. is_empty a.defaults) c ≡ true → fold with_default rows c ≡ rows
no_default_rows [] rows e = refl
no_default_rows (a ∷ c) rows e =
    let parts = both (is_empty a.defaults) (list_all (λ b. is_empty b.defaults) c) e in
    ap (λ (r : List Row). fold with_default r c) (no_default_row rows a parts.0) ∙ no_default_rows c rows parts.1

-- ---- the subcommand

pub leaf_rows : (s : Shape) (gs : List Given) → IsPlainLeaf s → AreGood s [] None gs → rows_after s.rules [] (words_for gs) ≡ rows_for gs
leaf_rows s gs plain h =
    ap (λ (w : Walk). finished s.rules w.held) (walk_all s [] None gs h)
    ∙ no_default_rows s.rules (settled s.rules (after [] None gs).held).rows plain.defaults
    ∙ rows_are s gs h

check_leaf : (s : Shape) (rows : List Row) → IsPlainLeaf s → HasRequired s.rules (λ id. is_given id rows) → check_fault s rows false ≡ []
check_leaf s rows plain h = rw (plain.help, plain.subcommand, plain.negates, h) refl

pub leaf_faultless : (s : Shape) (gs : List Given) → IsPlainLeaf s → AreGood s [] None gs → HasRequired s.rules (λ id. is_given id (rows_for gs))
    → level_fault s [] nothing_held (words_for gs) false [] ≡ []
leaf_faultless s gs plain h required =
    let ends : walk s.rules [] nothing_held (words_for gs) ≡ after [] None gs = walk_all s [] None gs h in
    let words = walk_faultless s [] None gs h in
    let settles : settle_fault s.rules s.args_override_self (walk s.rules [] nothing_held (words_for gs)).held ≡ [] =
    ap (λ (w : Walk). settle_fault s.rules s.args_override_self w.held) ends ∙ last_settles s [] None gs h in
    let rows = (settled s.rules (walk s.rules [] nothing_held (words_for gs)).held).rows in
    let defaults : defaults_fault rows s.rules ≡ [] = no_default_faults s.rules rows plain.defaults in
    let check : check_fault s (finished s.rules (walk s.rules [] nothing_held (words_for gs)).held) false ≡ [] =
    ap (λ (r : List Row). check_fault s r false) (leaf_rows s gs plain h) ∙ check_leaf s (rows_for gs) plain required in
    λ i. or_else (words i) (or_else (settles i) (or_else (defaults i) (check i)))
