-- What one row after another adds: `adds_none`, `adds_append`, `adds_more`. What is looked up: `adds_picked`, `adds_then`, `adds_nothing`.
use Rattle.std.proofs.Common.{◌≡◌, ℕ, ◌+◌, ◌<◌, Bool, true, false, List, [], ◌∷◌, ◌++◌, length, filter, map, take, set, get_or, inl, inr, refl, sym, ◌∙◌, subst, arith}
use Rattle.std.specs.Prelude.{◌⊎◌, ◌==◌, IsTrue}
use Rattle.std.specs.List.{All, AllByRecursion, Any}
use Rattle.std.proofs.lemmas.Bool.{cases_Bool, cases_eq, cond-true, cond-false, false≢true, eq-eqb}
use Rattle.std.proofs.lemmas.List.{take_more, get_or-map, get_or-set_same, get_or-set_other, length-map, length-set}
use Rattle.std.proofs.lemmas.List.Elements.{All-append, All-cons, All-nil, All-weaker, recursion_from_All, All-from_recursion}
use Rattle.json_text.specs.Tree.{Tree}
use Rattle.pattern_meaning.specs.Meets.{SomeMetOf}
use Rattle.pattern_meaning.specs.Holds.{IsMet}
use Rattle.pattern_meaning.proofs.AnyLemmas.{any_of, of_any}
use Rattle.value_index.specs.declared.row.Row.{Row}
use Rattle.value_index.specs.Adds.{Adds}
use Rattle.value_index.specs.Hits.{Entry, Finds, AddsMet}
use Rattle.value_index.specs.Rows.{test_in, entry_in}

module _ {X : Type 0} where
  some_left : (holds : X → Type 0) (xs ys : List X) → SomeMetOf holds xs → SomeMetOf holds (xs ++ ys)
  some_left holds [] ys h = absurd h
  some_left holds (x ∷ xs) ys (inl h) = inl h
  some_left holds (x ∷ xs) ys (inr h) = inr (some_left holds xs ys h)

  some_right : (holds : X → Type 0) (xs ys : List X) → SomeMetOf holds ys → SomeMetOf holds (xs ++ ys)
  some_right holds [] ys h = h
  some_right holds (x ∷ xs) ys h = inr (some_right holds xs ys h)

  some_filter : (holds : X → Type 0) (p : X → Bool) (xs : List X) → SomeMetOf holds (filter p xs) → SomeMetOf holds xs
  some_filter holds p [] h = absurd h
  some_filter holds p (x ∷ xs) h = elim (cases_Bool (p x)) [
    | inl passed ↦ elim (subst (SomeMetOf holds) (cond-true (p x) (x ∷ filter p xs) (filter p xs) passed) h) [
      | inl here ↦ inl here
      | inr more ↦ inr (some_filter holds p xs more)
    ]
    | inr failed ↦ inr (some_filter holds p xs (subst (SomeMetOf holds) (cond-false (p x) (x ∷ filter p xs) (filter p xs) failed) h))
  ]

  pub any_left : (holds : X → Type 0) (xs ys : List X) → Any holds xs → Any holds (xs ++ ys)
  any_left holds xs ys h = of_any holds (xs ++ ys) (some_left holds xs ys (any_of holds xs h))

  pub any_right : (holds : X → Type 0) (xs ys : List X) → Any holds ys → Any holds (xs ++ ys)
  any_right holds xs ys h = of_any holds (xs ++ ys) (some_right holds xs ys (any_of holds ys h))

  pub any_filter : (holds : X → Type 0) (p : X → Bool) (xs : List X) → Any holds (filter p xs) → Any holds xs
  any_filter holds p xs h = of_any holds xs (some_filter holds p xs (any_of holds (filter p xs) h))

  -- what holds of all that pass
  all_passed : (P : X → Type 0) (p : X → Bool) (xs : List X) → AllByRecursion P (filter p xs) → AllByRecursion (λ x. p x ≡ true → P x) xs
  all_passed P p [] h = tt
  all_passed P p (x ∷ xs) h = elim (cases_Bool (p x)) [
    | inl passed ↦
        let both = subst (AllByRecursion P) (cond-true (p x) (x ∷ filter p xs) (filter p xs) passed) h in
        ((λ _. both.0), all_passed P p xs both.1)
    | inr failed ↦ (
      (λ passed. absurd (false≢true (sym failed ∙ passed))),
      all_passed P p xs (subst (AllByRecursion P) (cond-false (p x) (x ∷ filter p xs) (filter p xs) failed) h),
    )
  ]

  pub passed : (P : X → Type 0) (p : X → Bool) (xs : List X) → All P (filter p xs) → All (λ x. p x ≡ true → P x) xs
  passed P p xs h =
      All-from_recursion (λ x. p x ≡ true → P x) xs (all_passed P p xs (recursion_from_All P (filter p xs) h))

abbrev pub Every : Row → Type 0
Every _ = Unit {0}

pub adds_none : (leaf : Tree) (marks : List Bool) → Adds Every [] leaf marks marks
adds_none leaf marks = record {
  same_places = refl;
  kept = λ p h. h;
  only = λ p h. inl h;
  found = All-nil (λ (row : Row). Every row → IsMet (test_in row) leaf → IsTrue (get_or marks row.mark false));
}

pub adds_append : (xs ys : List Row) (leaf : Tree) (a b c : List Bool) → Adds Every xs leaf a b → Adds Every ys leaf b c → Adds Every (xs ++ ys) leaf a c
adds_append xs ys leaf a b c first second = record {
  same_places = second.same_places ∙ first.same_places;
  kept = λ p h. second.kept p (first.kept p h);
  only = λ p h. elim (second.only p h) [
    | inl old ↦ elim (first.only p old) [
      | inl older ↦ inl older
      | inr found ↦ inr (any_left (λ (row : Row). Finds leaf p (entry_in row)) xs ys found)
    ]
    | inr found ↦ inr (any_right (λ (row : Row). Finds leaf p (entry_in row)) xs ys found)
  ];
  found = All-append (λ (row : Row). Every row → IsMet (test_in row) leaf → IsTrue (get_or c row.mark false)) xs ys
      (All-weaker (λ (row : Row). Every row → IsMet (test_in row) leaf → IsTrue (get_or b row.mark false))
      (λ (row : Row). Every row → IsMet (test_in row) leaf → IsTrue (get_or c row.mark false))
      (λ row h every met. second.kept row.mark (h every met)) xs first.found)
      second.found;
}

pub adds_more : (rows : List Row) (i : ℕ) (d : Row) (leaf : Tree) (a b c : List Bool) → i < length rows → Adds Every (take i rows) leaf a b
    → Adds Every (get_or rows i d ∷ []) leaf b c → Adds Every (take (i + 1) rows) leaf a c
adds_more rows i d leaf a b c within first second =
    subst (λ (l : List Row). Adds Every l leaf a c) (sym (take_more rows i d within)) (adds_append (take i rows) (get_or rows i d ∷ []) leaf a b c first second)

-- the rows with a signature
pub adds_picked : (s : ℕ) (rows : List Row) (leaf : Tree) (a b : List Bool) → Adds Every (filter (λ row. row.signature == s) rows) leaf a b
    → Adds (λ row. row.signature ≡ s) rows leaf a b
adds_picked s rows leaf a b h = record {
  same_places = h.same_places;
  kept = h.kept;
  only = λ p new. elim (h.only p new) [
    | inl old ↦ inl old
    | inr found ↦ inr (any_filter (λ (row : Row). Finds leaf p (entry_in row)) (λ row. row.signature == s) rows found)
  ];
  found = λ k d within same met.
      passed (λ (row : Row). Every row → IsMet (test_in row) leaf → IsTrue (get_or b row.mark false)) (λ row. row.signature == s) rows h.found k d within
      (eq-eqb _ s same) tt met;
}

-- no row that is looked up is met
pub adds_nothing : (P : Row → Type 0) (rows : List Row) (leaf : Tree) (marks : List Bool) → ((row : Row) → P row → IsMet (test_in row) leaf → ⊥)
    → Adds P rows leaf marks marks
adds_nothing P rows leaf marks none = record {
  same_places = refl;
  kept = λ p h. h;
  only = λ p h. inl h;
  found = λ k d within looked met. absurd (none (get_or rows k d) looked met);
}

pub adds_fewer : (P Q : Row → Type 0) (rows : List Row) (leaf : Tree) (a b : List Bool) → Adds P rows leaf a b → ((row : Row) → Q row → P row)
    → Adds Q rows leaf a b
adds_fewer P Q rows leaf a b h fewer = record {
  same_places = h.same_places;
  kept = h.kept;
  only = h.only;
  found = λ k d within looked met. h.found k d within (fewer (get_or rows k d) looked) met;
}

-- one part after another
pub adds_then : (P Q : Row → Type 0) (rows : List Row) (leaf : Tree) (a b c : List Bool) → Adds P rows leaf a b → Adds Q rows leaf b c
    → Adds (λ row. P row ⊎ Q row) rows leaf a c
adds_then P Q rows leaf a b c first second = record {
  same_places = second.same_places ∙ first.same_places;
  kept = λ p h. second.kept p (first.kept p h);
  only = λ p h. elim (second.only p h) [ inl old ↦ first.only p old | inr found ↦ inr found ];
  found = λ k d within looked met. elim looked [
    | inl one ↦ second.kept (get_or rows k d).mark (first.found k d within one met)
    | inr other ↦ second.found k d within other met
  ];
}

-- one row
pub decided : (row : Row) (leaf : Tree) (marks : List Bool) → row.mark < length marks → IsMet (test_in row) leaf
    → Adds Every (row ∷ []) leaf marks (set marks row.mark true)
decided row leaf marks within met = record {
  same_places = length-set marks row.mark true;
  kept = λ p h. elim (cases_eq p row.mark) [
    | inl same ↦ subst (λ n. IsTrue (get_or (set marks row.mark true) n false)) (sym same) (get_or-set_same marks row.mark true false within)
    | inr other ↦ get_or-set_other marks row.mark p true false other ∙ h
  ];
  only = λ p h. elim (cases_eq p row.mark) [
    | inl same ↦ inr (of_any (λ (r : Row). Finds leaf p (entry_in r)) (row ∷ []) (inl (sym same, met)))
    | inr other ↦ inl (sym (get_or-set_other marks row.mark p true false other) ∙ h)
  ];
  found = All-cons (λ (r : Row). Every r → IsMet (test_in r) leaf → IsTrue (get_or (set marks row.mark true) r.mark false)) row []
      (λ _ _. get_or-set_same marks row.mark true false within)
      (All-nil (λ (r : Row). Every r → IsMet (test_in r) leaf → IsTrue (get_or (set marks row.mark true) r.mark false)));
}

any_entry : (leaf : Tree) (p : ℕ) (rows : List Row) → SomeMetOf (λ (r : Row). Finds leaf p (entry_in r)) rows → SomeMetOf (Finds leaf p) (map entry_in rows)
any_entry leaf p [] h = absurd h
any_entry leaf p (row ∷ rows) (inl h) = inl h
any_entry leaf p (row ∷ rows) (inr h) = inr (any_entry leaf p rows h)

found_mark : (leaf : Tree) (new : List Bool) (p : ℕ) (rows : List Row) → AllByRecursion (λ (r : Row). IsMet (test_in r) leaf → IsTrue (get_or new r.mark false)) rows
    → SomeMetOf (Finds leaf p) (map entry_in rows) → IsTrue (get_or new p false)
found_mark leaf new p [] all h = absurd h
found_mark leaf new p (row ∷ rows) all (inl h) = subst (λ n. IsTrue (get_or new n false)) h.0 (all.0 h.1)
found_mark leaf new p (row ∷ rows) all (inr h) = found_mark leaf new p rows all.1 h

-- all that is met was looked up
pub adds_all : (P : Row → Type 0) (rows : List Row) (leaf : Tree) (a b : List Bool) → Adds P rows leaf a b → All (λ (r : Row). IsMet (test_in r) leaf → P r) rows
    → AddsMet (map entry_in rows) leaf a b
adds_all P rows leaf a b h all = record {
  same_places = h.same_places;
  marked = λ p. (
    λ new. elim (h.only p new) [
      | inl old ↦ inl old
      | inr found ↦ inr (of_any (Finds leaf p) (map entry_in rows) (any_entry leaf p rows (any_of (λ (r : Row). Finds leaf p (entry_in r)) rows found)))
    ],
    λ some. elim some [
      | inl old ↦ h.kept p old
      | inr found ↦
          found_mark leaf b p rows
          (recursion_from_All (λ (r : Row). IsMet (test_in r) leaf → IsTrue (get_or b r.mark false)) rows (λ k d within met. h.found k d within (all k d within met) met))
          (any_of (Finds leaf p) (map entry_in rows) found)
    ],
  );
}

pub marks_for : (rows : List Row) (n : ℕ) → All (λ (e : Entry). e.1 < n) (map entry_in rows) → All (λ (r : Row). r.mark < n) rows
marks_for rows n h k d within =
    let at = get_or-map entry_in rows k d (entry_in d) within in
    subst (λ (x : Entry). x.1 < n) at (h k (entry_in d) (omega (arith, length-map rows entry_in)))
