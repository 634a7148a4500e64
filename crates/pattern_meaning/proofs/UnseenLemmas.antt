-- A member of the root that no field names, and no field of a branch of the root, does not matter: `other_text`.
use Rattle.std.proofs.Common.{◌≡◌, ◌≢◌, ℕ, List, [], ◌∷◌, ◌++◌, inl, inr, refl, sym, ap, ◌∙◌, subst, cond}
use Rattle.std.specs.Str.{bytes_eq}
use Rattle.std.proofs.lemmas.Bool.{cond-false}
use Rattle.std.proofs.lemmas.List.{append_assoc, append-nil}
use Rattle.json_text.specs.Tree.{Tree, text, object, Members, member, members_of}
use Rattle.pattern_meaning.specs.Pattern.{Test, Pattern, pattern, Fields, no_fields, field, Field, tests, below, Branches, no_branches, branch}
use Rattle.pattern_meaning.specs.Pattern.{LacksField, LacksRoot, LackRoot}
use Rattle.pattern_meaning.specs.View.{AreViews, leaf_at, leaf_in}
use Rattle.pattern_meaning.specs.Holds.{IsAbsent, TestHolds, HoldsOnView, FieldsHold, FieldHolds, BranchesHold, SomeHolds, PatternHolds}
use Rattle.pattern_meaning.proofs.ViewLemmas.{differ}

-- at and below a path one view of one event has the leaves that another has of another, and so have all views
record SameBelow (e : Tree) (v : Tree) (o : Tree) (w : Tree) (path : List (List ℕ)) : Type 0 where
  leaves : (rest : List (List ℕ)) → leaf_at (path ++ rest) v ≡ leaf_at (path ++ rest) w
  absent : (rest : List (List ℕ)) → IsAbsent e (path ++ rest) → IsAbsent o (path ++ rest)

below_key : (e v o w : Tree) (path : List (List ℕ)) (key : List ℕ) → SameBelow e v o w path → SameBelow e v o w (path ++ key ∷ [])
below_key e v o w path key h = record {
  leaves = λ rest. ap (λ p. leaf_at p v) (append_assoc path (key ∷ []) rest) ∙ h.leaves (key ∷ rest)
      ∙ sym (ap (λ p. leaf_at p w) (append_assoc path (key ∷ []) rest));
  absent = λ rest gone. subst (IsAbsent o) (sym (append_assoc path (key ∷ []) rest)) (h.absent (key ∷ rest) (subst (IsAbsent e) (append_assoc path (key ∷ []) rest) gone));
}

test_moved : (e v o w : Tree) (path : List (List ℕ)) (t : Test) → SameBelow e v o w path → TestHolds e path v t → TestHolds o path w t
test_moved e v o w path t same h = elim h [
  | inl r ↦ inl (r.0, sym (ap (λ p. leaf_at p w) (append-nil path)) ∙ sym (same.leaves []) ∙ ap (λ p. leaf_at p v) (append-nil path) ∙ r.1, r.2)
  | inr r ↦ inr (r.0, subst (IsAbsent o) (append-nil path) (same.absent [] (subst (IsAbsent e) (sym (append-nil path)) r.1)))
]

mutual
  pattern_moved : (e v o w : Tree) (path : List (List ℕ)) (p : Pattern) → SameBelow e v o w path → HoldsOnView p e path v → HoldsOnView p o path w
  pattern_moved e v o w path (pattern fs bs) same h = (fields_moved e v o w path fs same h.0, branches_moved e v o w path bs same h.1)

  fields_moved : (e v o w : Tree) (path : List (List ℕ)) (fs : Fields) → SameBelow e v o w path → FieldsHold fs e path v → FieldsHold fs o path w
  fields_moved e v o w path no_fields same h = tt
  fields_moved e v o w path (field key f fs) same h =
      (field_moved e v o w (path ++ key ∷ []) f (below_key e v o w path key same) h.0, fields_moved e v o w path fs same h.1)

  field_moved : (e v o w : Tree) (path : List (List ℕ)) (f : Field) → SameBelow e v o w path → FieldHolds f e path v → FieldHolds f o path w
  field_moved e v o w path (tests ts) same h = (h.0, h.1, h.2, h.3, test_moved e v o w path h.1 same h.4)
  field_moved e v o w path (below p) same h = pattern_moved e v o w path p same h

  branches_moved : (e v o w : Tree) (path : List (List ℕ)) (bs : Branches) → SameBelow e v o w path → BranchesHold bs e path v → BranchesHold bs o path w
  branches_moved e v o w path no_branches same h = tt
  branches_moved e v o w path (branch p bs) same h = elim h [
    | inl here ↦ inl (pattern_moved e v o w path p same here)
    | inr more ↦ inr (some_moved e v o w path bs same more)
  ]

  some_moved : (e v o w : Tree) (path : List (List ℕ)) (bs : Branches) → SameBelow e v o w path → SomeHolds bs e path v → SomeHolds bs o path w
  some_moved e v o w path no_branches same h = absurd h
  some_moved e v o w path (branch p bs) same h = elim h [
    | inl here ↦ inl (pattern_moved e v o w path p same here)
    | inr more ↦ inr (some_moved e v o w path bs same more)
  ]

-- the same below each key but one
abbrev SameBut : List ℕ → Tree → Tree → Tree → Tree → Type 0
SameBut key e v o w = (k : List ℕ) → k ≢ key → SameBelow e v o w (k ∷ [])

mutual
  root_moved : (key : List ℕ) (e v o w : Tree) (p : Pattern) → LacksRoot key p → SameBut key e v o w → HoldsOnView p e [] v → HoldsOnView p o [] w
  root_moved key e v o w (pattern fs bs) lacks same h = (root_fields key e v o w fs lacks.0 same h.0, root_branches key e v o w bs lacks.1 same h.1)

  root_fields : (key : List ℕ) (e v o w : Tree) (fs : Fields) → LacksField key fs → SameBut key e v o w → FieldsHold fs e [] v → FieldsHold fs o [] w
  root_fields key e v o w no_fields lacks same h = tt
  root_fields key e v o w (field k f fs) lacks same h =
      (field_moved e v o w (k ∷ []) f (same k (λ is. lacks.0 (sym is))) h.0, root_fields key e v o w fs lacks.1 same h.1)

  root_branches : (key : List ℕ) (e v o w : Tree) (bs : Branches) → LackRoot key bs → SameBut key e v o w → BranchesHold bs e [] v → BranchesHold bs o [] w
  root_branches key e v o w no_branches lacks same h = tt
  root_branches key e v o w (branch p bs) lacks same h = elim h [
    | inl here ↦ inl (root_moved key e v o w p lacks.0 same here)
    | inr more ↦ inr (root_some key e v o w bs lacks.1 same more)
  ]

  root_some : (key : List ℕ) (e v o w : Tree) (bs : Branches) → LackRoot key bs → SameBut key e v o w → SomeHolds bs e [] v → SomeHolds bs o [] w
  root_some key e v o w no_branches lacks same h = absurd h
  root_some key e v o w (branch p bs) lacks same h = elim h [
    | inl here ↦ inl (root_moved key e v o w p lacks.0 same here)
    | inr more ↦ inr (root_some key e v o w bs lacks.1 same more)
  ]

-- the leaves below all keys but one
abbrev KeepsOthers : List ℕ → Members → Members → Type 0
KeepsOthers key seen after = (k : List ℕ) → k ≢ key → (rest : List (List ℕ)) → leaf_in k rest seen ≡ leaf_in k rest after

-- a member with another value, at no other key
other_value : (key : List ℕ) (v w : Tree) (ms : Members) → KeepsOthers key (member key v ms) (member key w ms)
other_value key v w ms k apart rest =
    let other = differ key k (λ e. apart (sym e)) in
    cond-false (bytes_eq key k) (leaf_at rest v) (leaf_in k rest ms) other ∙ sym (cond-false (bytes_eq key k) (leaf_at rest w) (leaf_in k rest ms) other)

text_replaced : (key : List ℕ) (a b : List ℕ) (front back : List (List ℕ × Tree)) (seen : Members)
    → AreViews (members_of (front ++ (key, text a) ∷ back)) seen
    → (after : Members) × AreViews (members_of (front ++ (key, text b) ∷ back)) after × KeepsOthers key seen after
text_replaced key a b [] back seen h = elim h [
  | inl r ↦ (
    member key (text b) r.1,
    inl (text b, r.1, refl, refl, r.4),
    λ k apart rest. ap (leaf_in k rest) r.2 ∙ other_value key r.0 (text b) r.1 k apart rest,
  )
  | inr r ↦ cc
]
text_replaced key a b (m ∷ front) back seen h = elim h [
  | inl r ↦
      let more = text_replaced key a b front back r.1 r.4 in (
        member m.0 r.0 more.0,
        inl (r.0, more.0, refl, r.3, more.1),
        λ k apart rest. ap (leaf_in k rest) r.2 ∙ ap (cond (bytes_eq m.0 k) (leaf_at rest r.0)) (more.2 k apart rest),
      )
  | inr r ↦ let more = text_replaced key a b front back seen r.1 in (more.0, inr (r.0, more.1), more.2)
]

pub other_text : (p : Pattern) (key : List ℕ) (front back : List (List ℕ × Tree)) (a b : List ℕ) → LacksRoot key p
    → PatternHolds p (object (members_of (front ++ (key, text a) ∷ back))) → PatternHolds p (object (members_of (front ++ (key, text b) ∷ back)))
other_text p key front back a b lacks h =
    let e = object (members_of (front ++ (key, text a) ∷ back)) in
    let o = object (members_of (front ++ (key, text b) ∷ back)) in
    let r = text_replaced key a b front back h.1.0 h.1.2 in
    let same : SameBut key e h.0 o (object r.0) = λ k apart. record {
      leaves = λ rest. ap (leaf_at (k ∷ rest)) h.1.1 ∙ r.2 k apart rest;
      absent = λ rest gone w view.
          let back_to = text_replaced key b a front back view.0 view.2 in
          ap (leaf_at (k ∷ rest)) view.1 ∙ back_to.2 k apart rest ∙ gone (object back_to.0) (back_to.0, refl, back_to.1);
    } in
    (object r.0, (r.0, refl, r.1), root_moved key e h.0 o (object r.0) p lacks same h.2)
