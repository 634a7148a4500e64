-- What each function of the quick way returns, from what those that it calls return. `joined`: a field and the rest are met by one view.
use Rattle.std.proofs.Common.{◌≡◌, ◌↔◌, ℕ, ◌<◌, ◌≤◌, ◌+◌, drop, Bool, true, false, ◌||◌, List, [], ◌∷◌, ◌++◌, ◌⊎◌, length, get_or, map}
use Rattle.std.proofs.Common.{Option, Some, None, unwrap_or, inl, inr, IsTrue, refl, sym, ap, ◌∙◌, subst, arith}
use Rattle.std.specs.Prelude.{IfSome}
use Rattle.std.specs.List.{list_any}
use Rattle.std.specs.Str.{bytes_eq}
use Rattle.std.proofs.lemmas.Bool.{cases_Bool, both_ways}
use Rattle.std.proofs.lemmas.List.{at_drop_more, at_drop_all}
use Rattle.std.proofs.lemmas.Slice.Eq.{bytes_eq-Decides}
use Rattle.json_text.specs.Tree.{Tree, object, no_members}
use Rattle.json_text.specs.Compact.{IsValue}
use Rattle.pattern_meaning.specs.Pattern.{Test, Pattern, pattern, Fields, no_fields, field, Field, tests, no_branches, branches_of, LacksField}
use Rattle.pattern_meaning.specs.PatternView.{test_of, pattern_of, fields_view}
use Rattle.pattern_meaning.specs.declared.pattern.Field.{Field as CodeField}
use Rattle.pattern_meaning.specs.declared.pattern.LeafTest.{LeafTest}
use Rattle.pattern_meaning.specs.declared.pattern.Pattern.{Pattern as CodePattern}
use Rattle.pattern_meaning.specs.View.{IsView, leaf_at}
use Rattle.pattern_meaning.specs.Holds.{IsMet, PatternHolds}
use Rattle.pattern_meaning.specs.Meets.{nothing, value_at, IsNode, seen_member, OnSome, SomeMetOf, TestMet, PatternMet, FieldsMet, FieldMet}
use Rattle.pattern_meaning.specs.Meets.{absent_in, is_missing, Decides, HasOneView, size_of}
use Rattle.pattern_meaning.proofs.AbsentLemmas.{absent_decides}
use Rattle.pattern_meaning.proofs.PathLemmas.{pattern_at}
use Rattle.pattern_meaning.proofs.SizeLemmas.{member_below, some_size}
use Rattle.pattern_meaning.proofs.ViewLemmas.{apart_keys, leaf_same, IsSeen, member_seen, member_given, node_view, node_joined}
use Rattle.pattern_meaning.proofs.WalkLemmas.{same_tests, untrue}

-- which paths `exists: false` holds of
abbrev Absent : Type 0
Absent = List (List ℕ) → Bool

abbrev Path : Type 0
Path = List (List ℕ)

-- the answer, if there is one, is right
abbrev Right : Option Bool → (Absent → Path → Type 0) → Type 0
Right o fact = IfSome o (λ b. Decides b fact)

-- a member's value, or nothing if it has no view
abbrev pub seen : List ℕ → Tree → Tree
seen key t = unwrap_or (seen_member key t) nothing

viewed : (o : Option Tree) (x : Tree) → IsSeen o x → IsView (unwrap_or o nothing) x
viewed None x h = (no_members, h, refl)
viewed (Some t) x h = h

shown : (o : Option Tree) (x : Tree) → IsView (unwrap_or o nothing) x → IsSeen o x
shown None x h = h.1 ∙ ap object h.2
shown (Some t) x h = h

seen_view : (k : List ℕ) (t v : Tree) → IsNode t → IsView t v → IsView (seen k t) (value_at k v)
seen_view k t v is view = viewed (seen_member k t) (value_at k v) (member_seen k t v is view)

below_case : (k : List ℕ) (t : Tree) (o : Option Tree) → IsNode t → seen_member k t ≡ o
    → (size_of (unwrap_or o nothing) ≤ size_of t) × IsValue (unwrap_or o nothing)
below_case k t None is e = let some = some_size t in (omega (arith, some), tt)
below_case k t (Some x) is e = let r = member_below k t x is e in (omega (arith, r.0), r.1)

pub seen_below : (k : List ℕ) (t : Tree) → IsNode t → (size_of (seen k t) ≤ size_of t) × IsValue (seen k t)
seen_below k t is = below_case k t (seen_member k t) is refl

-- what a view of a member's value satisfies is satisfied in a view of the whole
below_whole : (k : List ℕ) (t : Tree) (holds : Tree → Type 0) → IsNode t → OnSome (seen k t) holds → OnSome t (λ v. holds (value_at k v))
below_whole k t holds is h =
    let r = member_given k t h.0 is (shown (seen_member k t) h.0 h.1) in
    (r.0, r.1, subst holds (sym r.2) h.2)

-- what the fields ask of the member with a key
abbrev Asked : Absent → Path → Fields → List ℕ → Tree → Type 0
Asked a at no_fields q x = Unit {0}
Asked a at (field k f fs) q x = (k ≡ q → FieldMet a (at ++ k ∷ []) f x) × Asked a at fs q x

from_asked : (a : Absent) (at : Path) (fs : Fields) (v : Tree) → ((q : List ℕ) → Asked a at fs q (value_at q v)) → FieldsMet a at fs v
from_asked a at no_fields v h = tt
from_asked a at (field k f fs) v h = ((h k).0 refl, from_asked a at fs v (λ q. (h q).1))

to_asked : (a : Absent) (at : Path) (fs : Fields) (v : Tree) → FieldsMet a at fs v → (q : List ℕ) → Asked a at fs q (value_at q v)
to_asked a at no_fields v h q = tt
to_asked a at (field k f fs) v h q = (λ e. subst (λ j. FieldMet a (at ++ k ∷ []) f (value_at j v)) e h.0, to_asked a at fs v h.1 q)

lacks_asked : (a : Absent) (at : Path) (q : List ℕ) (fs : Fields) (x : Tree) → LacksField q fs → Asked a at fs q x
lacks_asked a at q no_fields x h = tt
lacks_asked a at q (field k f fs) x h = (λ e. absurd (h.0 (sym e)), lacks_asked a at q fs x h.1)

part : (a : Absent) (at : Path) (t : Tree) (k : List ℕ) (f : Field) (fs : Fields) → LacksField k fs
    → OnSome t (λ v. FieldMet a (at ++ k ∷ []) f (value_at k v)) → OnSome t (FieldsMet a at fs)
    → (q : List ℕ) → OnSome t (λ v. Asked a at (field k f fs) q (value_at q v))
part a at t k f fs lacks here rest q = elim (cases_Bool (bytes_eq k q)) [
  | inl same ↦
      let e : k ≡ q = (bytes_eq-Decides k q).0 same in (
        here.0,
        here.1,
        (
          λ _. subst (λ j. FieldMet a (at ++ k ∷ []) f (value_at j here.0)) e here.2,
          lacks_asked a at q fs (value_at q here.0) (subst (λ j. LacksField j fs) e lacks),
        ),
      )
  | inr other ↦ (rest.0, rest.1, (λ e. absurd (apart_keys k q other e), to_asked a at fs rest.0 rest.2 q))
]

joined : (a : Absent) (at : Path) (t : Tree) (k : List ℕ) (f : Field) (fs : Fields) → IsNode t → HasOneView (seen k t) ⊎ LacksField k fs
    → OnSome (seen k t) (FieldMet a (at ++ k ∷ []) f) → OnSome t (FieldsMet a at fs) → OnSome t (FieldsMet a at (field k f fs))
joined a at t k f fs is apart first rest = elim apart [
  | inl one ↦
      let w : value_at k rest.0 ≡ seen k t = one (value_at k rest.0) (seen_view k t rest.0 is rest.1) in
      (rest.0, rest.1, (subst (FieldMet a (at ++ k ∷ []) f) (one first.0 first.1 ∙ sym w) first.2, rest.2))
  | inr lacks ↦
      let here = below_whole k t (FieldMet a (at ++ k ∷ []) f) is first in
      let r = node_joined t (Asked a at (field k f fs)) is.1 (part a at t k f fs lacks here rest) in
      (r.0, r.1, from_asked a at (field k f fs) r.0 r.2)
]

-- the fields of a value that is no list

pub no_field_met : (t : Tree) → IsNode t → Decides true (λ a at. OnSome t (FieldsMet a at no_fields))
no_field_met t is a at = (λ h. let v = node_view t is.1 in (v.0, v.1, tt), λ h. refl)

pub field_failed : (t x : Tree) (k : List ℕ) (f : Field) (fs : Fields) (b : Bool) → IsNode t → x ≡ seen k t
    → Decides b (λ a at. OnSome x (FieldMet a at f)) → b ≡ false → Decides false (λ a at. OnSome t (FieldsMet a at (field k f fs)))
field_failed t x k f fs b is e met none a at = (
  λ h. cc,
  λ r. untrue ((met a (at ++ k ∷ [])).1 (value_at k r.0, subst (λ y. IsView y (value_at k r.0)) (sym e) (seen_view k t r.0 is r.1), r.2.0)) none,
)

pub rest_joined : (t x : Tree) (k : List ℕ) (f : Field) (fs : Fields) (b : Bool) → IsNode t → x ≡ seen k t → HasOneView x ⊎ LacksField k fs
    → Decides b (λ a at. OnSome x (FieldMet a at f)) → b ≡ true
    → (a : Absent) (at : Path) → OnSome t (FieldsMet a at fs) ↔ OnSome t (FieldsMet a at (field k f fs))
rest_joined t x k f fs b is e apart met sure a at =
    let single = subst (λ y. HasOneView y ⊎ LacksField k fs) e apart in
    let first = subst (λ y. OnSome y (FieldMet a (at ++ k ∷ []) f)) e ((met a (at ++ k ∷ [])).0 sure) in
    (λ h. joined a at t k f fs is single first h, λ r. (r.0, r.1, r.2.1))

pub pattern_met : (t : Tree) (fs : Fields) (o : Option Bool) → Right o (λ a at. OnSome t (FieldsMet a at fs))
    → Right o (λ a at. OnSome t (PatternMet a at (pattern fs no_branches)))
pattern_met t fs None met = tt
pattern_met t fs (Some b) met = λ a at. (
  λ h. let r = (met a at).0 h in (r.0, r.1, (r.2, tt)),
  λ r. (met a at).1 (r.0, r.1, r.2.0),
)

pub no_branch : (ps : List CodePattern) → length ps < 1 → branches_of (map pattern_of ps) ≡ no_branches
no_branch [] none = refl
no_branch (p ∷ ps) none = absurd (omega (arith, none))

pub lacks : (key : List ℕ) (fs : List (List ℕ × CodeField)) → list_any (λ f. bytes_eq f.0 key) fs ≡ false → LacksField key (fields_view fs)
lacks key [] h = tt
lacks key (f ∷ fs) h = elim (cases_Bool (bytes_eq f.0 key)) [
  | inl same ↦ cc
  | inr other ↦ (
    λ e. both_ways (bytes_eq f.0 key) other ((bytes_eq-Decides f.0 key).1 (sym e)),
    lacks key fs (sym (ap (λ b. b || list_any (λ x. bytes_eq x.0 key) fs) other) ∙ h),
  )
]

-- the tests of a value that is no list

pub tests_met : (x : Tree) (ts : List Test) (o : Option Bool) → IsNode x → Right o (λ a at. SomeMetOf (TestMet a at x) ts)
    → Right o (λ a at. OnSome x (FieldMet a at (tests ts)))
tests_met x ts None is met = tt
tests_met x ts (Some b) is met = λ a at. (
  λ h. let v = node_view x is.1 in (v.0, v.1, same_tests a at v.0 x ts (sym (leaf_same x v.0 is.1 v.1)) ((met a at).0 h)),
  λ r. (met a at).1 (same_tests a at x r.0 ts (leaf_same x r.0 is.1 r.1) r.2),
)

-- a leaf meets a test
abbrev LeafMet : Tree → Test → Type 0
LeafMet t x = (leaf : Tree) × (leaf_at [] t ≡ Some leaf) × IsMet x leaf

tests_left : (ts : List LeafTest) (i : ℕ) (x : LeafTest) → i < length ts → x ≡ get_or ts i x
    → map test_of (drop i ts) ≡ test_of x ∷ map test_of (drop (i + 1) ts)
tests_left ts i x inside is = at_drop_more (map test_of) ts i x inside ∙ ap (λ y. test_of y ∷ map test_of (drop (i + 1) ts)) (sym is)

-- what is left of the tests answers what all answer
abbrev Left : Tree → List LeafTest → ℕ → Absent → Path → Type 0
Left t ts i a at = SomeMetOf (TestMet a at t) (map test_of (drop i ts)) ↔ SomeMetOf (TestMet a at t) (map test_of ts)

pub test_found : (t : Tree) (ts : List LeafTest) (i : ℕ) (x : LeafTest) (b : Bool) → i < length ts → x ≡ get_or ts i x
    → IsTrue b ↔ LeafMet t (test_of x) → b ≡ true → ((a : Absent) (at : Path) → Left t ts i a at)
    → Decides true (λ a at. SomeMetOf (TestMet a at t) (map test_of ts))
test_found t ts i x b inside is met sure left a at = (
  λ h. (left a at).0 (subst (SomeMetOf (TestMet a at t)) (sym (tests_left ts i x inside is)) (inl (inl (met.0 sure)))),
  λ h. refl,
)

pub test_passed : (t : Tree) (ts : List LeafTest) (i : ℕ) (x : LeafTest) (b : Bool) → i < length ts → x ≡ get_or ts i x
    → is_missing (test_of x) ≡ false → IsTrue b ↔ LeafMet t (test_of x) → b ≡ false → (a : Absent) (at : Path) → Left t ts i a at → Left t ts (i + 1) a at
test_passed t ts i x b inside is given met none a at left = (
  λ h. left.0 (subst (SomeMetOf (TestMet a at t)) (sym (tests_left ts i x inside is)) (inr h)),
  λ h. elim (subst (SomeMetOf (TestMet a at t)) (tests_left ts i x inside is) (left.1 h)) [
    | inl here ↦ elim here [
      | inl one ↦ untrue (met.1 one) none
      | inr gone ↦ let e : is_missing (test_of x) ≡ true = ap is_missing gone.0 in cc
    ]
    | inr more ↦ more
  ],
)

pub tests_done : (t : Tree) (ts : List LeafTest) (i : ℕ) → length ts ≤ i → ((a : Absent) (at : Path) → Left t ts i a at)
    → Decides false (λ a at. SomeMetOf (TestMet a at t) (map test_of ts))
tests_done t ts i done left a at = (
  λ h. cc,
  λ h. absurd (subst (SomeMetOf (TestMet a at t)) (at_drop_all (map test_of) ts i done) ((left a at).1 h)),
)

-- an answer for the whole event
pub quick_decides : (p : Pattern) (event : Tree) (b : Bool) → IsValue event → Decides b (λ a at. OnSome event (PatternMet a at p))
    → IsTrue b ↔ PatternHolds p event
quick_decides p event b is met =
    let a = absent_in event in
    let all = met a [] in (
      λ h. let r = all.0 h in (r.0, r.1, (pattern_at a event [] r.0 p (λ q _. absent_decides event q is)).0 r.2),
      λ r. all.1 (r.0, r.1, (pattern_at a event [] r.0 p (λ q _. absent_decides event q is)).1 r.2),
    )
