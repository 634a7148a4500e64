-- A pattern on a view of the whole, at a path, and on the value that the view has there: `holds_at`. And what a pattern says of a view
-- depends only on the leaves below it: `pattern_moved`.
use Rattle.std.proofs.Common.{◌≡◌, ◌↔◌, ℕ, Bool, true, false, List, [], ◌∷◌, ◌++◌, Some, None, inl, inr, refl, sym, ap, ◌∙◌, subst, unwrap_or}
use Rattle.std.specs.Str.{bytes_eq}
use Rattle.std.proofs.lemmas.Bool.{cases_Bool, cond-true, cond-false}
use Rattle.json_text.specs.Tree.{Tree, null, truth, number, text, list, object, Members, no_members, member}
use Rattle.json_text.specs.Access.{member_in}
use Rattle.pattern_meaning.specs.Pattern.{Test, missing, Pattern, pattern, Fields, no_fields, field, Field, tests, below, Branches, no_branches, branch}
use Rattle.pattern_meaning.specs.View.{leaf_at, leaf_in}
use Rattle.pattern_meaning.specs.Holds.{IsAbsent, TestHolds, HoldsOnView, FieldsHold, FieldHolds, BranchesHold, SomeHolds}
use Rattle.pattern_meaning.specs.Meets.{nothing, value_at, SomeMetOf, TestMet, PatternMet, FieldsMet, FieldMet, BranchesMet, SomeMet}
use Rattle.pattern_meaning.specs.Meets.{same_path, known_in, is_missing, has_missing, pattern_paths, fields_paths, field_paths, branches_paths}
use Rattle.pattern_meaning.proofs.AnyLemmas.{any_of, of_any}
use Rattle.pattern_meaning.proofs.KnownLemmas.{or_first, or_second, known_first, known_second, same_itself}

-- the value of a view at a path
abbrev pub at_path : List (List ℕ) → Tree → Tree
at_path [] v = v
at_path (key ∷ path) v = at_path path (value_at key v)

at_last : (path : List (List ℕ)) (key : List ℕ) (v : Tree) → at_path (path ++ key ∷ []) v ≡ value_at key (at_path path v)
at_last [] key v = refl
at_last (k ∷ path) key v = at_last path key (value_at k v)

no_leaf : (path : List (List ℕ)) → leaf_at path nothing ≡ None
no_leaf [] = refl
no_leaf (k ∷ path) = refl

leaf_in_first : (key : List ℕ) (path : List (List ℕ)) (ms : Members) → leaf_in key path ms ≡ leaf_at path (unwrap_or (member_in key ms) nothing)
leaf_in_first key path no_members = sym (no_leaf path)
leaf_in_first key path (member k t ms) = elim (cases_Bool (bytes_eq k key)) [
  | inl same ↦ cond-true (bytes_eq k key) (leaf_at path t) (leaf_in key path ms) same
      ∙ sym (ap (λ o. leaf_at path (unwrap_or o nothing)) (cond-true (bytes_eq k key) (Some t) (member_in key ms) same))
  | inr other ↦ cond-false (bytes_eq k key) (leaf_at path t) (leaf_in key path ms) other ∙ leaf_in_first key path ms
      ∙ sym (ap (λ o. leaf_at path (unwrap_or o nothing)) (cond-false (bytes_eq k key) (Some t) (member_in key ms) other))
]

leaf_below : (key : List ℕ) (path : List (List ℕ)) (v : Tree) → leaf_at (key ∷ path) v ≡ leaf_at path (value_at key v)
leaf_below key path null = sym (no_leaf path)
leaf_below key path (truth b) = sym (no_leaf path)
leaf_below key path (number n) = sym (no_leaf path)
leaf_below key path (text t) = sym (no_leaf path)
leaf_below key path (list items) = sym (no_leaf path)
leaf_below key path (object ms) = leaf_in_first key path ms

leaf_there : (path : List (List ℕ)) (v : Tree) → leaf_at path v ≡ leaf_at [] (at_path path v)
leaf_there [] v = refl
leaf_there (key ∷ path) v = leaf_below key path v ∙ leaf_there path (value_at key v)

-- `absent` decides what `exists: false` asks of these paths
abbrev pub Decided : (List (List ℕ) → Bool) → Tree → List (List (List ℕ)) → Type 0
Decided absent event paths = (path : List (List ℕ)) → known_in paths path ≡ true → (absent path ≡ true) ↔ IsAbsent event path

of_first : (a : List (List ℕ) → Bool) (event : Tree) (ps qs : List (List (List ℕ))) → Decided a event (ps ++ qs) → Decided a event ps
of_first a event ps qs d path h = d path (known_first ps qs path h)

of_second : (a : List (List ℕ) → Bool) (event : Tree) (ps qs : List (List (List ℕ))) → Decided a event (ps ++ qs) → Decided a event qs
of_second a event ps qs d path h = d path (known_second ps qs path h)

is_there : (t : Test) → t ≡ missing → is_missing t ≡ true
is_there t e = ap is_missing e

tests_at : (a : List (List ℕ) → Bool) (event : Tree) (path : List (List ℕ)) (v : Tree) (ts : List Test)
    → (has_missing ts ≡ true → (a path ≡ true) ↔ IsAbsent event path)
    → SomeMetOf (TestMet a path (at_path path v)) ts ↔ SomeMetOf (TestHolds event path v) ts
tests_at a event path v [] d = (λ h. h, λ h. h)
tests_at a event path v (t ∷ ts) d =
    let rest = tests_at a event path v ts (λ h. d (or_second (is_missing t) (has_missing ts) h)) in
    let here : t ≡ missing → (a path ≡ true) ↔ IsAbsent event path = λ e. d (or_first (is_missing t) (has_missing ts) (is_there t e)) in (
      λ h. elim h [
        | inl one ↦ inl (elim one [
          | inl r ↦ inl (r.0, leaf_there path v ∙ r.1, r.2)
          | inr r ↦ inr (r.0, (here r.0).0 r.1)
        ])
        | inr more ↦ inr (rest.0 more)
      ],
      λ h. elim h [
        | inl one ↦ inl (elim one [
          | inl r ↦ inl (r.0, sym (leaf_there path v) ∙ r.1, r.2)
          | inr r ↦ inr (r.0, (here r.0).1 r.1)
        ])
        | inr more ↦ inr (rest.1 more)
      ],
    )

path_there : (path : List (List ℕ)) (ts : List Test) → has_missing ts ≡ true → known_in (field_paths (tests ts) path) path ≡ true
path_there path ts h =
    ap (λ ps. known_in ps path) (cond-true (has_missing ts) (path ∷ []) [] h) ∙ or_first (same_path path path) false (same_itself path)

mutual
  pub pattern_at : (a : List (List ℕ) → Bool) (event : Tree) (path : List (List ℕ)) (v : Tree) (p : Pattern) → Decided a event (pattern_paths p path)
      → PatternMet a path p (at_path path v) ↔ HoldsOnView p event path v
  pattern_at a event path v (pattern fs bs) d =
      let f = fields_at a event path v fs (of_first a event (fields_paths fs path) (branches_paths bs path) d) in
      let b = branches_at a event path v bs (of_second a event (fields_paths fs path) (branches_paths bs path) d) in
      (λ h. (f.0 h.0, b.0 h.1), λ h. (f.1 h.0, b.1 h.1))

  fields_at : (a : List (List ℕ) → Bool) (event : Tree) (path : List (List ℕ)) (v : Tree) (fs : Fields) → Decided a event (fields_paths fs path)
      → FieldsMet a path fs (at_path path v) ↔ FieldsHold fs event path v
  fields_at a event path v no_fields d = (λ h. tt, λ h. tt)
  fields_at a event path v (field key f fs) d =
      let one = field_at a event (path ++ key ∷ []) v f (of_first a event (field_paths f (path ++ key ∷ [])) (fields_paths fs path) d) in
      let rest = fields_at a event path v fs (of_second a event (field_paths f (path ++ key ∷ [])) (fields_paths fs path) d) in
      let e = at_last path key v in (
        λ h. (one.0 (subst (FieldMet a (path ++ key ∷ []) f) (sym e) h.0), rest.0 h.1),
        λ h. (subst (FieldMet a (path ++ key ∷ []) f) e (one.1 h.0), rest.1 h.1),
      )

  field_at : (a : List (List ℕ) → Bool) (event : Tree) (path : List (List ℕ)) (v : Tree) (f : Field) → Decided a event (field_paths f path)
      → FieldMet a path f (at_path path v) ↔ FieldHolds f event path v
  field_at a event path v (tests ts) d =
      let s = tests_at a event path v ts (λ h. d path (path_there path ts h)) in
      (λ h. of_any (TestHolds event path v) ts (s.0 h), λ h. s.1 (any_of (TestHolds event path v) ts h))
  field_at a event path v (below p) d = pattern_at a event path v p d

  branches_at : (a : List (List ℕ) → Bool) (event : Tree) (path : List (List ℕ)) (v : Tree) (bs : Branches) → Decided a event (branches_paths bs path)
      → BranchesMet a path bs (at_path path v) ↔ BranchesHold bs event path v
  branches_at a event path v no_branches d = (λ h. tt, λ h. tt)
  branches_at a event path v (branch p bs) d =
      let one = pattern_at a event path v p (of_first a event (pattern_paths p path) (branches_paths bs path) d) in
      let rest = some_at a event path v bs (of_second a event (pattern_paths p path) (branches_paths bs path) d) in (
        λ h. elim h [ inl here ↦ inl (one.0 here) | inr more ↦ inr (rest.0 more) ],
        λ h. elim h [ inl here ↦ inl (one.1 here) | inr more ↦ inr (rest.1 more) ],
      )

  some_at : (a : List (List ℕ) → Bool) (event : Tree) (path : List (List ℕ)) (v : Tree) (bs : Branches) → Decided a event (branches_paths bs path)
      → SomeMet a path bs (at_path path v) ↔ SomeHolds bs event path v
  some_at a event path v no_branches d = (λ h. h, λ h. h)
  some_at a event path v (branch p bs) d =
      let one = pattern_at a event path v p (of_first a event (pattern_paths p path) (branches_paths bs path) d) in
      let rest = some_at a event path v bs (of_second a event (pattern_paths p path) (branches_paths bs path) d) in (
        λ h. elim h [ inl here ↦ inl (one.0 here) | inr more ↦ inr (rest.0 more) ],
        λ h. elim h [ inl here ↦ inl (one.1 here) | inr more ↦ inr (rest.1 more) ],
      )
