-- Anchors under their paths.
use Rattle.std.proofs.Common.{◌≡◌, ℕ, zero, suc, ◌+◌, ◌<◌, ◌≤◌, Bool, true, false, ◌⊎◌, List, [], ◌∷◌, ◌++◌, length, map, filter, get_or, inl, inr, refl, sym, ap, ap₂, ◌∙◌, subst, take, arith}
use Rattle.std.specs.Prelude.{Contains, ◌≢◌, ◌↔◌, ◌==◌, not}
use Rattle.std.specs.Arc.{arc_value}
use Rattle.std.specs.declared.alloc.Global.{Global}
use Rattle.std.specs.declared.sync.Arc.{Arc}
use Rattle.std.proofs.lemmas.Bool.{cases_Bool, cases_eq, cond-true, cond-false, false≢true, eqb-true, eq-eqb, ne_eqb}
use Rattle.std.proofs.lemmas.List.{map-append, take_more, get_or_default, get_or_append_left}
use Rattle.std.specs.List.{list_any}
use Rattle.pattern_meaning.specs.Pattern.{Test}
use Rattle.pattern_meaning.specs.PatternView.{test_of}
use Rattle.pattern_meaning.specs.declared.pattern.LeafTest.{LeafTest}
use Rattle.pattern_meaning.proofs.ViewLemmas.{or_none}
use Rattle.value_index.specs.Index.{entered, entries_of}
use Rattle.std.proofs.Math.Seq.{get_or-append_seam}
use Rattle.std.proofs.lemmas.List.Elements.{Contains-get_or, Contains-append_left, Contains-append_right, Contains-append_cases, Contains-push, filter-append}
use Rattle.pattern_meaning.specs.Alternatives.{Part}
use Rattle.value_index.specs.Hits.{Entry}
use Rattle.value_index.specs.declared.index.PathIndex.{PathIndex}
use Rattle.rule_automaton.specs.declared.rule.Rule.{Rule}
use Rattle.rule_automaton.specs.declared.table.Table.{Table}
use Rattle.rule_automaton.specs.AnchorView.{parts_of, shared_tests}
use Rattle.rule_automaton.specs.Rules.{has_other}
use Rattle.rule_automaton.specs.RuleView.{rule_in}
use Rattle.rule_automaton.specs.Table.{Entered, with_number, entered_by, entered_by_all, Enters, IsEntered, AreAt, entries_in, IsTableOf, ExactBelow, others}
use Rattle.rule_automaton.proofs.MemberLemmas.{nothing_in, first, in_cons, some_of, kept_there, from_kept, map_in, in_map}

pub entered_left : (xs ys : List Entered) (path : List (List ℕ)) (e : Entry) → IsEntered xs path e → IsEntered (xs ++ ys) path e
entered_left xs ys path e h = (h.0, Contains-append_left xs ys h.0 h.1, h.2)

pub entered_right : (xs ys : List Entered) (path : List (List ℕ)) (e : Entry) → IsEntered ys path e → IsEntered (xs ++ ys) path e
entered_right xs ys path e h = (h.0, Contains-append_right xs ys h.0 h.1, h.2)

pub entered_cases : (xs ys : List Entered) (path : List (List ℕ)) (e : Entry) → IsEntered (xs ++ ys) path e → IsEntered xs path e ⊎ IsEntered ys path e
entered_cases xs ys path e h = elim (Contains-append_cases xs ys h.0 h.1) [
  | inl left ↦ inl (h.0, left, h.2)
  | inr right ↦ inr (h.0, right, h.2)
]

-- nothing is entered at a path that is not there
pub none_at : (all : List Entered) (table : Table) (path : List (List ℕ)) → IsTableOf all table → ¬ (Contains table.paths path) → AreAt all path []
none_at all table path is none e = (λ c. absurd (nothing_in e c), λ entered. absurd (none (is.covers path e entered)))

pub both_at : (xs ys : List Entered) (path : List (List ℕ)) (a b c : List Entry) → AreAt xs path a → AreAt ys path b
    → ((e : Entry) → Contains c e ↔ (Contains a e ⊎ Contains b e)) → AreAt (xs ++ ys) path c
both_at xs ys path a b c left right both e = (
  λ h. elim ((both e).0 h) [
    | inl here ↦ entered_left xs ys path e ((left e).0 here)
    | inr more ↦ entered_right xs ys path e ((right e).0 more)
  ],
  λ h. elim (entered_cases xs ys path e h) [
    | inl here ↦ (both e).1 (inl ((left e).1 here))
    | inr more ↦ (both e).1 (inr ((right e).1 more))
  ],
)

differs : (n m : ℕ) → not (m == n) ≡ true → m ≢ n
differs n m h same = let sure : (m == n) ≡ true = eq-eqb m n same in
    let off : not (m == n) ≡ false = ap not sure in absurd (false≢true (sym off ∙ h))

different : (n m : ℕ) → m ≢ n → not (m == n) ≡ true
different n m h = ap not (ne_eqb m n h)

pub other_entered : (n : ℕ) (all : List Entered) (path : List (List ℕ)) (e : Entry) → IsEntered all path e → e.1 ≢ n → IsEntered (others n all) path e
other_entered n all path e h apart =
    (h.0, kept_there (λ (x : Entered). not (x.0 == n)) all h.0 h.1 (different n h.0.0 (λ same. apart (h.2.1 ∙ same))), h.2)

pub entered_other : (n : ℕ) (all : List Entered) (path : List (List ℕ)) (e : Entry) → IsEntered (others n all) path e → IsEntered all path e × (e.1 ≢ n)
entered_other n all path e h =
    let r = from_kept (λ (x : Entered). not (x.0 == n)) all h.0 h.1 in
    ((h.0, r.0, h.2), λ same. differs n h.0.0 r.1 (sym h.2.1 ∙ same))

pub other_at : (n : ℕ) (all : List Entered) (path : List (List ℕ)) (a b : List Entry) → AreAt all path a
    → ((e : Entry) → Contains b e ↔ (Contains a e × (e.1 ≢ n))) → AreAt (others n all) path b
other_at n all path a b at left e = (
  λ h. let r = (left e).0 h in other_entered n all path e ((at e).0 r.0) r.1,
  λ h. let r = entered_other n all path e h in (left e).1 ((at e).1 r.0, r.1),
)

-- one part at its path
abbrev pub marked_by : ℕ → Test → Entry
marked_by n test = (test, n)

one_entered : (n : ℕ) (part : Part) (path : List (List ℕ)) (e : Entry) (x : Entered) → (n, part) ≡ x → Enters path e x → Contains (map (marked_by n) part.1) e
one_entered n part path e x same enters =
    let number : e.1 ≡ n = enters.1 ∙ sym (ap (λ (y : Entered). y.0) same) in
    let there : Contains part.1 e.0 = subst (λ (y : Entered). Contains y.1.1 e.0) (sym same) enters.2 in
    let is : marked_by n e.0 ≡ e = ap (λ (m : ℕ). marked_by m e.0) (sym number) in
    subst (Contains (map (marked_by n) part.1)) is (map_in (marked_by n) part.1 e.0 there)

entered_one : (n : ℕ) (part : Part) (path : List (List ℕ)) (e : Entry) → part.0 ≡ path → Contains (map (marked_by n) part.1) e → IsEntered ((n, part) ∷ []) path e
entered_one n part path e here c =
    let r = in_map (marked_by n) part.1 e c in
    let x : Entered = (n, part) in
    let there : Contains part.1 e.0 = subst (λ (t : Test). Contains part.1 t) (ap (λ (y : Entry). y.0) r.2) r.1 in
    let mark : e.1 ≡ n = sym (ap (λ (y : Entry). y.1) r.2) in
    (x, first x [], (here, mark, there))

pub one_at : (n : ℕ) (part : Part) (path : List (List ℕ)) (entries : List Entry) → part.0 ≡ path
    → ((e : Entry) → Contains entries e ↔ Contains (map (marked_by n) part.1) e) → AreAt ((n, part) ∷ []) path entries
one_at n part path entries here is e = (
  λ h. entered_one n part path e here ((is e).0 h),
  λ h. (is e).1 (elim (in_cons (n, part) h.0 [] h.1) [
    | inl same ↦ one_entered n part path e h.0 same h.2
    | inr none ↦ absurd (nothing_in h.0 none)
  ]),
)

-- rules with other numbers
parts_of_other : (n m : ℕ) (parts : List Part) → (m == n) ≡ false → filter (λ (x : Entered). not (x.0 == n)) (with_number m parts) ≡ with_number m parts
parts_of_other n m [] apart = refl
parts_of_other n m (part ∷ parts) apart =
    cond-true (not (m == n)) ((m, part) ∷ filter (λ (x : Entered). not (x.0 == n)) (with_number m parts)) (filter (λ (x : Entered). not (x.0 == n)) (with_number m parts)) (ap not apart)
    ∙ ap (λ l. (m, part) ∷ l) (parts_of_other n m parts apart)

parts_of_same : (n m : ℕ) (parts : List Part) → (m == n) ≡ true → filter (λ (x : Entered). not (x.0 == n)) (with_number m parts) ≡ []
parts_of_same n m [] same = refl
parts_of_same n m (part ∷ parts) same =
    cond-false (not (m == n)) ((m, part) ∷ filter (λ (x : Entered). not (x.0 == n)) (with_number m parts)) (filter (λ (x : Entered). not (x.0 == n)) (with_number m parts)) (ap not same)
    ∙ parts_of_same n m parts same

abbrev other_rule : ℕ → Rule → Bool
other_rule n rule = not (rule.number == n)

pub other_rules : (n : ℕ) (rules : List Rule) → entered_by_all (filter (λ (rule : Rule). not (rule.number == n)) rules) ≡ others n (entered_by_all rules)
other_rules n [] = refl
other_rules n (rule ∷ rules) =
    let mine = entered_by rule in
    let rest = entered_by_all rules in
    let split = filter-append (λ (x : Entered). not (x.0 == n)) mine rest in
    let parts = parts_of (arc_value rule.anchors).items in
    elim (cases_Bool (rule.number == n)) [
      | inl same ↦ ap entered_by_all (cond-false (other_rule n rule) (rule ∷ filter (other_rule n) rules) (filter (other_rule n) rules) (ap not same))
          ∙ other_rules n rules ∙ sym (split ∙ ap (λ l. l ++ others n rest) (parts_of_same n rule.number parts same))
      | inr apart ↦ ap entered_by_all (cond-true (other_rule n rule) (rule ∷ filter (other_rule n) rules) (filter (other_rule n) rules) (ap not apart))
          ∙ ap (λ l. mine ++ l) (other_rules n rules) ∙ sym (split ∙ ap (λ l. l ++ others n rest) (parts_of_other n rule.number parts apart))
    ]

pub other_seen : (n : ℕ) (rules : List Rule) → map rule_in (filter (λ (rule : Rule). not (rule.number == n)) rules) ≡ filter (has_other n) (map rule_in rules)
other_seen n [] = refl
other_seen n (rule ∷ rules) = elim (cases_Bool (rule.number == n)) [
  | inl same ↦ ap (map rule_in) (cond-false (other_rule n rule) (rule ∷ filter (other_rule n) rules) (filter (other_rule n) rules) (ap not same))
      ∙ other_seen n rules
      ∙ sym (cond-false (has_other n (rule_in rule)) (rule_in rule ∷ filter (has_other n) (map rule_in rules)) (filter (has_other n) (map rule_in rules)) (ap not same))
  | inr apart ↦ ap (map rule_in) (cond-true (other_rule n rule) (rule ∷ filter (other_rule n) rules) (filter (other_rule n) rules) (ap not apart))
      ∙ ap (λ l. rule_in rule ∷ l) (other_seen n rules)
      ∙ sym (cond-true (has_other n (rule_in rule)) (rule_in rule ∷ filter (has_other n) (map rule_in rules)) (filter (has_other n) (map rule_in rules)) (ap not apart))
]

-- a table is made place after place
pub exact_none : (all : List Entered) (paths : List (List (List ℕ))) (indexes : List (Arc PathIndex Global)) → ExactBelow all paths indexes 0
exact_none all paths indexes place path index within = absurd (omega (arith, within))

pub exact_more : (all : List Entered) (paths : List (List (List ℕ))) (indexes : List (Arc PathIndex Global)) (n : ℕ) (made : Arc PathIndex Global)
    → length indexes ≡ n → ExactBelow all paths indexes n → ((path : List (List ℕ)) → AreAt all (get_or paths n path) (entries_in made))
    → ExactBelow all paths (indexes ++ made ∷ []) (n + 1)
exact_more all paths indexes n made many before here place path index within = elim (cases_eq place n) [
  | inl same ↦
      let at : get_or (indexes ++ made ∷ []) place index ≡ made =
      ap (λ k. get_or (indexes ++ made ∷ []) k index) (same ∙ sym many) ∙ get_or-append_seam indexes made [] index in
      subst (λ (x : Arc PathIndex Global). AreAt all (get_or paths place path) (entries_in x)) (sym at)
      (subst (λ k. AreAt all (get_or paths k path) (entries_in made)) (sym same) (here path))
  | inr apart ↦
      let less : place < n = omega (arith, within, apart) in
      let there : place < length indexes = omega (arith, less, many) in
      subst (λ (x : Arc PathIndex Global). AreAt all (get_or paths place path) (entries_in x)) (sym (get_or_append_left indexes (made ∷ []) index place there))
      (before place path index less)
]

-- what `Paths::of` and `Table::at` say of a path with a number
pub at_number : (all : List Entered) (paths : List (List (List ℕ))) (n : ℕ) (keys : List (List ℕ)) (entries : List Entry) → n < length paths
    → keys ≡ get_or paths n keys → AreAt all keys entries → (path : List (List ℕ)) → AreAt all (get_or paths n path) entries
at_number all paths n keys entries within is at path = subst (λ p. AreAt all p entries) (is ∙ get_or_default paths n keys path within) at

pub covers_both : (xs ys : List Entered) (a b : Table) (paths : List (List (List ℕ)))
    → ((path : List (List ℕ)) → Contains (a.paths ++ b.paths) path → Contains paths path) → IsTableOf xs a → IsTableOf ys b
    → (path : List (List ℕ)) (e : Entry) → IsEntered (xs ++ ys) path e → Contains paths path
covers_both xs ys a b paths all left right path e h = elim (entered_cases xs ys path e h) [
  | inl here ↦ all path (Contains-append_left a.paths b.paths path (left.covers path e here))
  | inr more ↦ all path (Contains-append_right a.paths b.paths path (right.covers path e more))
]

-- the paths of the indexes so far that have tests of other rules
abbrev pub AreKept : Table → ℕ → List (List (List ℕ)) → ℕ → Type 0
AreKept table number kept n = (place : ℕ) (path : List (List ℕ)) (index : Arc PathIndex Global) (e : Entry) → place < n
    → Contains (entries_in (get_or table.indexes.items place index)) e → e.1 ≢ number → Contains kept (get_or table.paths place path)

pub kept_none : (table : Table) (number : ℕ) (kept : List (List (List ℕ))) → AreKept table number kept 0
kept_none table number kept place path index e within = absurd (omega (arith, within))

-- one index more, whose path is added or which has no tests of other rules
pub kept_more : (table : Table) (number : ℕ) (kept more : List (List (List ℕ))) (n : ℕ) → AreKept table number kept n
    → ((path : List (List ℕ)) → Contains kept path → Contains more path)
    → ((path : List (List ℕ)) (index : Arc PathIndex Global) (e : Entry) → Contains (entries_in (get_or table.indexes.items n index)) e → e.1 ≢ number
    → Contains more (get_or table.paths n path))
    → AreKept table number more (n + 1)
kept_more table number kept more n before grown here place path index e within inside other = elim (cases_eq place n) [
  | inl same ↦ subst (λ k. Contains more (get_or table.paths k path)) (sym same)
      (here path index e (subst (λ k. Contains (entries_in (get_or table.indexes.items k index)) e) same inside) other)
  | inr apart ↦ grown (get_or table.paths place path) (before place path index e (omega (arith, within, apart)) inside other)
]

-- its path is added
pub kept_push : (table : Table) (number : ℕ) (kept more : List (List (List ℕ))) (n : ℕ) (copy : List (List ℕ)) → AreKept table number kept n
    → more ≡ kept ++ copy ∷ [] → n < length table.paths → copy ≡ get_or table.paths n copy → AreKept table number more (n + 1)
kept_push table number kept more n copy before grown within is =
    kept_more table number kept more n before (λ path h. subst (λ l. Contains l path) (sym grown) (Contains-append_left kept (copy ∷ []) path h))
    (λ path index e inside other. subst (λ l. Contains l (get_or table.paths n path)) (sym grown)
    (subst (Contains (kept ++ copy ∷ [])) (is ∙ get_or_default table.paths n copy path within) (Contains-push kept copy)))

-- it has no tests of other rules
pub kept_same : (table : Table) (number : ℕ) (kept more : List (List (List ℕ))) (n : ℕ) (there : Arc PathIndex Global) → AreKept table number kept n
    → more ≡ kept → n < length table.indexes.items → there ≡ get_or table.indexes.items n there
    → ((e : Entry) → Contains (entries_in there) e → e.1 ≡ number) → AreKept table number more (n + 1)
kept_same table number kept more n there before same within is none =
    kept_more table number kept more n before (λ path h. subst (λ l. Contains l path) (sym same) h)
    (λ path index e inside other. absurd (other (none e
    (subst (λ (x : Arc PathIndex Global). Contains (entries_in x) e) (sym (is ∙ get_or_default table.indexes.items n there index within)) inside))))

pub kept_all : (all : List Entered) (table : Table) (number : ℕ) (kept : List (List (List ℕ))) (n : ℕ) → IsTableOf all table → length table.paths ≤ n
    → AreKept table number kept n → (path : List (List ℕ)) (e : Entry) → IsEntered (others number all) path e → Contains kept path
kept_all all table number kept n is past before path e h =
    let r = entered_other number all path e h in
    let c = is.covers path e r.0 in
    let within : c.0 < length table.indexes.items = omega (arith, c.1, table.same_length) in
    let index = some_of table.indexes.items c.0 within in
    let at : AreAt all path (entries_in (get_or table.indexes.items c.0 index)) =
    subst (λ p. AreAt all p (entries_in (get_or table.indexes.items c.0 index))) c.2 (is.exact c.0 path index c.1) in
    subst (Contains kept) c.2 (before c.0 path index e (omega (arith, c.1, past)) ((at e).1 r.0) r.1)

pub empty_table : (table : Table) → ((path : List (List ℕ)) → Contains table.paths path → ⊥) → IsTableOf [] table
empty_table table none = record {
  covers = λ path e h. absurd (nothing_in h.0 h.1);
  exact = λ place path index within. absurd (none (get_or table.paths place path) (Contains-get_or table.paths place path within));
}

only_one : (a b : List (List ℕ)) → Contains (a ∷ []) b → a ≡ b
only_one a b (zero, within, same) = same
only_one a b (suc k, within, same) = absurd (omega (arith, within))

pub one_table : (n : ℕ) (part : Part) (table : Table) → ((path : List (List ℕ)) → Contains table.paths path ↔ Contains (part.0 ∷ []) path)
    → ((place : ℕ) (index : Arc PathIndex Global) → place < length table.paths
    → (e : Entry) → Contains (entries_in (get_or table.indexes.items place index)) e ↔ Contains (map (marked_by n) part.1) e)
    → IsTableOf ((n, part) ∷ []) table
one_table n part table paths entries = record {
  covers = λ path e h. (paths path).1 (subst (Contains (part.0 ∷ [])) (here path e h) (first part.0 []));
  exact = λ place path index within. one_at n part (get_or table.paths place path) (entries_in (get_or table.indexes.items place index))
      (only_one part.0 (get_or table.paths place path) ((paths (get_or table.paths place path)).0 (Contains-get_or table.paths place path within)))
      (entries place index within);
}
  where
    here : (path : List (List ℕ)) (e : Entry) → IsEntered ((n, part) ∷ []) path e → part.0 ≡ path
    here path e h = elim (in_cons (n, part) h.0 [] h.1) [
      | inl same ↦ ap (λ (y : Entered). y.1.0) same ∙ h.2.0
      | inr none ↦ absurd (nothing_in h.0 none)
    ]

pub table_made : (all : List Entered) (table : Table) (n : ℕ) → length table.paths ≤ n
    → ((path : List (List ℕ)) (e : Entry) → IsEntered all path e → Contains table.paths path) → ExactBelow all table.paths table.indexes.items n → IsTableOf all table
table_made all table n past covers exact = record {
  covers = covers;
  exact = λ place path index within. exact place path index (omega (arith, within, past));
}

pub none_inside : {X : Type 0} (xs : List X) → ((x : X) → Contains xs x → ⊥) → length xs ≡ 0
none_inside [] none = refl
none_inside (x ∷ xs) none = absurd (none x (first x xs))

-- tests with marks, one more
pub numbered_more : (tests : List (Arc LeafTest Global)) (i : ℕ) (test shared : Arc LeafTest Global) (rows more : List (Arc LeafTest Global × ℕ)) (n : ℕ) → i < length tests
    → test ≡ get_or tests i test → entered rows ≡ map (λ t. (t, n)) (shared_tests (take i tests)) → arc_value shared ≡ arc_value test
    → more ≡ rows ++ (shared, n) ∷ [] → entered more ≡ map (λ t. (t, n)) (shared_tests (take (i + 1) tests))
numbered_more tests i test shared rows more n within is before same grown =
    let row : Arc LeafTest Global × ℕ → Entry = λ e. (test_of (arc_value e.0), e.1) in
    let number : Test → Entry = λ t. (t, n) in
    let next : take (i + 1) tests ≡ take i tests ++ test ∷ [] = take_more tests i test within ∙ ap (λ (x : Arc LeafTest Global). take i tests ++ x ∷ []) (sym is) in
    ap entered grown ∙ map-append row rows ((shared, n) ∷ [])
    ∙ ap₂ ◌++◌ before (ap (λ (v : LeafTest). (test_of v, n) ∷ []) same)
    ∙ sym (ap (λ (l : List (Arc LeafTest Global)). map number (shared_tests l)) next
    ∙ ap (map number) (map-append (λ (x : Arc LeafTest Global). test_of (arc_value x)) (take i tests) (test ∷ []))
    ∙ map-append number (shared_tests (take i tests)) (test_of (arc_value test) ∷ []))

none_of : {X : Type 0} (p : X → Bool) (xs : List X) (x : X) → list_any p xs ≡ false → Contains xs x → p x ≡ false
none_of p [] x none c = absurd (nothing_in x c)
none_of p (y ∷ ys) x none (zero, within, same) = ap p (sym same) ∙ (or_none (p y) (list_any p ys) none).0
none_of p (y ∷ ys) x none (suc k, within, same) = none_of p ys x (or_none (p y) (list_any p ys) none).1 (k, omega (arith, within), same)

abbrev pub Marked : Type 0
Marked = Arc LeafTest Global × ℕ

-- no test has another mark
pub no_other : (tests : List Marked) (n : ℕ) (entries : List Entry) → list_any (λ (t : Marked). not (t.1 == n)) tests ≡ false → entered tests ≡ entries
    → (e : Entry) → Contains entries e → e.1 ≡ n
no_other tests n entries none is e c =
    let see : Marked → Entry = λ t. (test_of (arc_value t.0), t.1) in
    let r = in_map see tests e (subst (λ l. Contains l e) (sym is) c) in
    let same : not (r.0.1 == n) ≡ false = none_of (λ (t : Marked). not (t.1 == n)) tests r.0 none r.1 in
    sym (ap (λ (x : Entry). x.1) r.2) ∙ eqb-true r.0.1 n (not_false (r.0.1 == n) same)
  where
    not_false : (b : Bool) → not b ≡ false → b ≡ true
    not_false true h = refl
    not_false false h = absurd (false≢true (sym h))

-- no test has the mark
pub no_mark : (tests : List Marked) (n : ℕ) (entries : List Entry) → list_any (λ (t : Marked). t.1 == n) tests ≡ false → entered tests ≡ entries
    → (e : Entry) → Contains entries e → e.1 ≢ n
no_mark tests n entries none is e c same =
    let see : Marked → Entry = λ t. (test_of (arc_value t.0), t.1) in
    let r = in_map see tests e (subst (λ l. Contains l e) (sym is) c) in
    let apart : (r.0.1 == n) ≡ false = none_of (λ (t : Marked). t.1 == n) tests r.0 none r.1 in
    false≢true (sym apart ∙ eq-eqb r.0.1 n (ap (λ (x : Entry). x.1) r.2 ∙ same))

-- the tests with other marks
pub left_entries : (tests left : List Marked) (n : ℕ) (entries new : List Entry) → left ≡ filter (λ (t : Marked). not (t.1 == n)) tests → entered tests ≡ entries
    → ((e : Entry) → Contains new e ↔ Contains (entered left) e) → (e : Entry) → Contains new e ↔ (Contains entries e × (e.1 ≢ n))
left_entries tests left n entries new kept is made e =
    let see : Marked → Entry = λ t. (test_of (arc_value t.0), t.1) in
    let other = λ (t : Marked). not (t.1 == n) in (
      λ h.
          let r = in_map see left e ((made e).0 h) in
          let s = from_kept other tests r.0 (subst (λ l. Contains l r.0) kept r.1) in (
            subst (λ l. Contains l e) is (subst (λ x. Contains (entered tests) x) r.2 (map_in see tests r.0 s.0)),
            λ same. differs n r.0.1 s.1 (ap (λ (x : Entry). x.1) r.2 ∙ same),
          ),
      λ h.
          let r = in_map see tests e (subst (λ l. Contains l e) (sym is) h.0) in
          let there = kept_there other tests r.0 r.1 (different n r.0.1 (λ same. h.1 (sym (ap (λ (x : Entry). x.1) r.2) ∙ same))) in
          (made e).1 (subst (λ x. Contains (entered left) x) r.2 (map_in see left r.0 (subst (λ l. Contains l r.0) (sym kept) there))),
    )

-- the tests of both
pub joined_entries : (one more all : List Marked) (a b new : List Entry) → all ≡ one ++ more → entered one ≡ a → entered more ≡ b
    → ((e : Entry) → Contains new e ↔ Contains (entered all) e) → (e : Entry) → Contains new e ↔ (Contains a e ⊎ Contains b e)
joined_entries one more all a b new grown first second made e =
    let see : Marked → Entry = λ t. (test_of (arc_value t.0), t.1) in
    let is : entered all ≡ a ++ b = ap entered grown ∙ map-append see one more ∙ ap₂ ◌++◌ first second in (
      λ h. Contains-append_cases a b e (subst (λ l. Contains l e) is ((made e).0 h)),
      λ h. (made e).1 (subst (λ l. Contains l e) (sym is) (elim h [ inl here ↦ Contains-append_left a b e here | inr there ↦ Contains-append_right a b e there ])),
    )

pub only_left : (a b new : List Entry) → new ≡ a → b ≡ [] → (e : Entry) → Contains new e ↔ (Contains a e ⊎ Contains b e)
only_left a b new same none e = (
  λ h. inl (subst (λ l. Contains l e) same h),
  λ h. elim h [ inl here ↦ subst (λ l. Contains l e) (sym same) here | inr there ↦ absurd (nothing_in e (subst (λ l. Contains l e) none there)) ],
)

pub only_right : (a b new : List Entry) → a ≡ [] → new ≡ b → (e : Entry) → Contains new e ↔ (Contains a e ⊎ Contains b e)
only_right a b new none same e = (
  λ h. inr (subst (λ l. Contains l e) same h),
  λ h. elim h [ inl here ↦ absurd (nothing_in e (subst (λ l. Contains l e) none here)) | inr there ↦ subst (λ l. Contains l e) (sym same) there ],
)

pub neither : (a b new made : List Entry) → a ≡ [] → b ≡ [] → made ≡ [] → ((e : Entry) → Contains new e ↔ Contains made e)
    → (e : Entry) → Contains new e ↔ (Contains a e ⊎ Contains b e)
neither a b new made first second none is e = (
  λ h. absurd (nothing_in e (subst (λ l. Contains l e) none ((is e).0 h))),
  λ h. elim h [ inl here ↦ absurd (nothing_in e (subst (λ l. Contains l e) first here)) | inr there ↦ absurd (nothing_in e (subst (λ l. Contains l e) second there)) ],
)

pub all_left : (entries new : List Entry) (n : ℕ) → new ≡ entries → ((e : Entry) → Contains entries e → e.1 ≢ n)
    → (e : Entry) → Contains new e ↔ (Contains entries e × (e.1 ≢ n))
all_left entries new n same other e = (
  λ h. let there = subst (λ l. Contains l e) same h in (there, other e there),
  λ h. subst (λ l. Contains l e) (sym same) h.0,
)

pub none_left_of : (entries new made : List Entry) (n : ℕ) → entries ≡ [] → made ≡ [] → ((e : Entry) → Contains new e ↔ Contains made e)
    → (e : Entry) → Contains new e ↔ (Contains entries e × (e.1 ≢ n))
none_left_of entries new made n empty none is e = (
  λ h. absurd (nothing_in e (subst (λ l. Contains l e) none ((is e).0 h))),
  λ h. absurd (nothing_in e (subst (λ l. Contains l e) empty h.0)),
)

pub shared_at : (x y : Arc PathIndex Global) (given wanted : List Entry) → arc_value x ≡ arc_value y → given ≡ wanted
    → ((e : Entry) → Contains (entries_in y) e ↔ Contains given e) → (e : Entry) → Contains (entries_in x) e ↔ Contains wanted e
shared_at x y given wanted same is made e = (
  λ h. subst (λ l. Contains l e) is ((made e).0 (subst (λ (i : PathIndex). Contains (entries_of i) e) same h)),
  λ h. subst (λ (i : PathIndex). Contains (entries_of i) e) (sym same) ((made e).1 (subst (λ l. Contains l e) (sym is) h)),
)

-- a table whose indexes are one that is shared
pub shared_table : (n : ℕ) (part : Part) (table : Table) (m : ℕ) (made : Arc PathIndex Global) (tests : List Entry)
    → ((path : List (List ℕ)) → Contains table.paths path ↔ Contains (part.0 ∷ []) path) → length table.paths ≤ m
    → ((place : ℕ) (index : Arc PathIndex Global) → place < m → arc_value (get_or table.indexes.items place index) ≡ arc_value made)
    → tests ≡ map (marked_by n) part.1 → ((e : Entry) → Contains (entries_in made) e ↔ Contains tests e) → IsTableOf ((n, part) ∷ []) table
shared_table n part table m made tests paths past shared is entries =
    one_table n part table paths (λ place index within. shared_at (get_or table.indexes.items place index) made tests (map (marked_by n) part.1)
    (shared place index (omega (arith, within, past))) is entries)
