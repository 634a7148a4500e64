-- What each function of the walk returns, from what those that it calls return.
use Rattle.std.proofs.Common.{◌≡◌, ◌↔◌, ℕ, ◌+◌, ◌<◌, ◌≤◌, Bool, true, false, not, ◌||◌, List, [], ◌∷◌, ◌++◌, length, drop, get_or, Some, None}
use Rattle.std.proofs.Common.{inl, inr, IsTrue, refl, sym, ap, ◌∙◌, subst}
use Rattle.std.specs.Str.{bytes_eq}
use Rattle.std.proofs.lemmas.Bool.{cases_Bool}
use Rattle.std.proofs.lemmas.List.{at_drop_more, at_drop_all}
use Rattle.std.proofs.lemmas.Slice.Eq.{bytes_eq-Decides}
use Rattle.json_text.specs.Tree.{Tree, list, object, no_members, Items, item, items_of}
use Rattle.json_text.specs.View.{tree_of, trees_of}
use Rattle.json_text.specs.declared.value.Json.{Json}
use Rattle.pattern_meaning.specs.Pattern.{Test, Pattern, pattern, Fields, no_fields, field, Field, tests, below, Branches, branch}
use Rattle.pattern_meaning.specs.View.{IsView, leaf_at}
use Rattle.pattern_meaning.specs.Meets.{nothing, value_at, IsNoList, IsNode, seen_member, OnSome, SomeMetOf, TestMet}
use Rattle.pattern_meaning.specs.Meets.{FieldsMet, FieldMet, BranchesMet, SomeMet, Wants, has_key, WithKeyMet, AllMet, EachKeyMet}
use Rattle.pattern_meaning.proofs.ViewLemmas.{or_parts, apart_keys, leaf_same, IsSeen, member_seen, member_given, node_view, node_joined}

-- which paths `exists: false` holds of
abbrev Absent : Type 0
Absent = List (List ℕ) → Bool

no_key_met : (a : Absent) (at : List (List ℕ)) (q : List ℕ) (ws : Wants) (x : Tree) → has_key q ws ≡ false → WithKeyMet a at q ws x
no_key_met a at q [] x none = tt
no_key_met a at q (w ∷ ws) x none = elim (cases_Bool (bytes_eq w.0 q)) [
  | inl same ↦ cc
  | inr other ↦ (λ e. absurd (apart_keys w.0 q other e), no_key_met a at q ws x (later (bytes_eq w.0 q) (has_key q ws) other none))
]
  where
    later : (b c : Bool) → b ≡ false → (b || c) ≡ false → c ≡ false
    later true c e h = cc
    later false c e h = h

key_found : (a : Absent) (at : List (List ℕ)) (t : Tree) (all ws : Wants) (q : List ℕ) → has_key q ws ≡ true → EachKeyMet a at t all ws
    → OnSome t (λ v. WithKeyMet a (at ++ q ∷ []) q all (value_at q v))
key_found a at t all [] q h each = cc
key_found a at t all (w ∷ ws) q h each = elim (or_parts (bytes_eq w.0 q) (has_key q ws) h) [
  | inl same ↦ subst (λ k. OnSome t (λ v. WithKeyMet a (at ++ k ∷ []) k all (value_at k v))) ((bytes_eq-Decides w.0 q).0 same) each.0
  | inr more ↦ key_found a at t all ws q more each.1
]

all_from_keys : (a : Absent) (at : List (List ℕ)) (ws : Wants) (v : Tree) → ((q : List ℕ) → WithKeyMet a (at ++ q ∷ []) q ws (value_at q v)) → AllMet a at ws v
all_from_keys a at [] v h = tt
all_from_keys a at (w ∷ ws) v h = ((h w.0).0 refl, all_from_keys a at ws v (λ q. (h q).1))

keys_from_all : (a : Absent) (at : List (List ℕ)) (ws : Wants) (v : Tree) → AllMet a at ws v → (q : List ℕ) → WithKeyMet a (at ++ q ∷ []) q ws (value_at q v)
keys_from_all a at [] v h q = tt
keys_from_all a at (w ∷ ws) v h q = (λ e. subst (λ k. FieldMet a (at ++ k ∷ []) w.1 (value_at k v)) e h.0, keys_from_all a at ws v h.1 q)

each_from_all : (a : Absent) (at : List (List ℕ)) (t v : Tree) (all ws : Wants) → IsView t v → AllMet a at all v → EachKeyMet a at t all ws
each_from_all a at t v all [] view h = tt
each_from_all a at t v all (w ∷ ws) view h = ((v, view, keys_from_all a at all v h w.0), each_from_all a at t v all ws view h)

pub joined : (a : Absent) (at : List (List ℕ)) (t : Tree) (found : Wants) (b : Bool) → IsNoList t → IsTrue b ↔ EachKeyMet a at t found found
    → IsTrue b ↔ OnSome t (λ v. Unit {0} × AllMet a at found v)
joined a at t found b is each = (
  λ h. let r = node_joined t (λ q. WithKeyMet a (at ++ q ∷ []) q found) is (part (each.0 h)) in (r.0, r.1, (tt, all_from_keys a at found r.0 r.2)),
  λ r. each.1 (each_from_all a at t r.0 found found r.1 r.2.1),
)
  where
    part : EachKeyMet a at t found found → (q : List ℕ) → OnSome t (λ v. WithKeyMet a (at ++ q ∷ []) q found (value_at q v))
    part met q = elim (cases_Bool (has_key q found)) [
      | inl there ↦ key_found a at t found found q there met
      | inr none ↦ let v = node_view t is in (v.0, v.1, no_key_met a (at ++ q ∷ []) q found (value_at q v.0) none)
    ]

pub later_met : (a : Absent) (at : List (List ℕ)) (t : Tree) (all ws : Wants) (k : List ℕ) (f : Field) (b : Bool) → has_key k ws ≡ true
    → IsTrue b ↔ EachKeyMet a at t all ws → IsTrue b ↔ EachKeyMet a at t all ((k, f) ∷ ws)
later_met a at t all ws k f b there each = (λ h. (key_found a at t all ws k there (each.0 h), each.0 h), λ r. each.1 r.1)

pub same_tests : (a : Absent) (at : List (List ℕ)) (t v : Tree) (ts : List Test) → leaf_at [] v ≡ leaf_at [] t
    → SomeMetOf (TestMet a at v) ts → SomeMetOf (TestMet a at t) ts
same_tests a at t v [] e h = h
same_tests a at t v (x ∷ ts) e h = elim h [
  | inl here ↦ inl (elim here [
    | inl r ↦ inl (r.0, sym e ∙ r.1, r.2)
    | inr r ↦ inr r
  ])
  | inr more ↦ inr (same_tests a at t v ts e more)
]

pub tests_met : (a : Absent) (at : List (List ℕ)) (t : Tree) (key k : List ℕ) (ts : List Test) (ws found : Wants) (here b : Bool) → IsNoList t → k ≡ key
    → IsTrue here ↔ SomeMetOf (TestMet a at t) ts → IsTrue here
    → IsTrue b ↔ OnSome t (λ v. WithKeyMet a at key ws v × AllMet a at found v)
    → IsTrue b ↔ OnSome t (λ v. WithKeyMet a at key ((k, tests ts) ∷ ws) v × AllMet a at found v)
tests_met a at t key k ts ws found here b is same some given more = (
  λ h. let r = more.0 h in (r.0, r.1, ((λ e. same_tests a at r.0 t ts (sym (leaf_same t r.0 is r.1)) (some.0 given), r.2.0), r.2.1)),
  λ r. more.1 (r.0, r.1, (r.2.0.1, r.2.1)),
)

pub tests_failed : (a : Absent) (at : List (List ℕ)) (t : Tree) (key k : List ℕ) (ts : List Test) (ws found : Wants) (here : Bool) → IsNoList t → k ≡ key
    → IsTrue here ↔ SomeMetOf (TestMet a at t) ts → ¬ (IsTrue here)
    → IsTrue here ↔ OnSome t (λ v. WithKeyMet a at key ((k, tests ts) ∷ ws) v × AllMet a at found v)
tests_failed a at t key k ts ws found here is same some refused = (
  λ h. absurd (refused h),
  λ r. absurd (refused (some.1 (same_tests a at t r.0 ts (leaf_same t r.0 is r.1) (r.2.0.0 same)))),
)

pub opened_met : (a : Absent) (at : List (List ℕ)) (t : Tree) (key k : List ℕ) (fs : Fields) (bs : Branches) (ws found : Wants) (b : Bool) → k ≡ key
    → IsTrue b ↔ OnSome t (λ v. FieldsMet a at fs v × BranchesMet a at bs v × WithKeyMet a at key ws v × AllMet a at found v)
    → IsTrue b ↔ OnSome t (λ v. WithKeyMet a at key ((k, below (pattern fs bs)) ∷ ws) v × AllMet a at found v)
opened_met a at t key k fs bs ws found b same is = (
  λ h. let r = is.0 h in (r.0, r.1, ((λ e. (r.2.0, r.2.1), r.2.2), r.2.3)),
  λ r. let p = r.2.0.0 same in is.1 (r.0, r.1, (p.0, p.1, r.2.0.1, r.2.1)),
)

pub member_met : (a : Absent) (at : List (List ℕ)) (t x : Tree) (key : List ℕ) (found : Wants) (b : Bool) → IsNode t → seen_member key t ≡ Some x
    → IsTrue b ↔ OnSome x (WithKeyMet a (at ++ key ∷ []) key found)
    → IsTrue b ↔ OnSome t (λ v. WithKeyMet a (at ++ key ∷ []) key found (value_at key v))
member_met a at t x key found b is e met = (
  λ h.
      let w = met.0 h in
      let v = member_given key t w.0 is (subst (λ o. IsSeen o w.0) (sym e) w.1) in
      (v.0, v.1, subst (WithKeyMet a (at ++ key ∷ []) key found) (sym v.2) w.2),
  λ v. met.1 (value_at key v.0, subst (λ o. IsSeen o (value_at key v.0)) e (member_seen key t v.0 is v.1), v.2),
)

pub member_missing : (a : Absent) (at : List (List ℕ)) (t : Tree) (key : List ℕ) (found : Wants) (b : Bool) → IsNode t → seen_member key t ≡ None
    → IsTrue b ↔ OnSome nothing (λ v. WithKeyMet a (at ++ key ∷ []) key found v × AllMet a (at ++ key ∷ []) [] v)
    → IsTrue b ↔ OnSome t (λ v. WithKeyMet a (at ++ key ∷ []) key found (value_at key v))
member_missing a at t key found b is e met = (
  λ h.
      let w = met.0 h in
      let v = member_given key t nothing is (subst (λ o. IsSeen o nothing) (sym e) refl) in
      (v.0, v.1, subst (WithKeyMet a (at ++ key ∷ []) key found) (sym (v.2 ∙ sym (w.1.1 ∙ ap object w.1.2))) w.2.0),
  λ v. met.1 (
    nothing,
    (no_members, refl, refl),
    (subst (WithKeyMet a (at ++ key ∷ []) key found) (subst (λ o. IsSeen o (value_at key v.0)) e (member_seen key t v.0 is v.1)) v.2, tt),
  ),
)

-- the list of values, one item at a time

abbrev OnItems : Items → (Tree → Type 0) → Type 0
OnItems items holds = OnSome (list items) holds

items_left : (xs : List Json) (i : ℕ) (x : Json) → i < length xs → x ≡ get_or xs i x
    → items_of (trees_of (drop i xs)) ≡ item (tree_of x) (items_of (trees_of (drop (i + 1) xs)))
items_left xs i x inside is =
    at_drop_more (λ l. items_of (trees_of l)) xs i x inside ∙ ap (λ y. item (tree_of y) (items_of (trees_of (drop (i + 1) xs)))) (sym is)

pub item_met : (xs : List Json) (i : ℕ) (x : Json) (holds : Tree → Type 0) → i < length xs → x ≡ get_or xs i x
    → OnItems (items_of (trees_of (drop i xs))) holds ↔ OnItems (items_of (trees_of xs)) holds
    → OnSome (tree_of x) holds → OnItems (items_of (trees_of xs)) holds
item_met xs i x holds inside is left h =
    left.0 (subst (λ items. OnItems items holds) (sym (items_left xs i x inside is)) (h.0, inl h.1, h.2))

pub item_passed : (xs : List Json) (i : ℕ) (x : Json) (holds : Tree → Type 0) → i < length xs → x ≡ get_or xs i x
    → OnItems (items_of (trees_of (drop i xs))) holds ↔ OnItems (items_of (trees_of xs)) holds
    → ¬ (OnSome (tree_of x) holds)
    → OnItems (items_of (trees_of (drop (i + 1) xs))) holds ↔ OnItems (items_of (trees_of xs)) holds
item_passed xs i x holds inside is left none = (
  λ h. left.0 (subst (λ items. OnItems items holds) (sym (items_left xs i x inside is)) (h.0, inr h.1, h.2)),
  λ h. let r = subst (λ items. OnItems items holds) (items_left xs i x inside is) (left.1 h) in elim r.1 [
    | inl here ↦ absurd (none (r.0, here, r.2))
    | inr more ↦ (r.0, more, r.2)
  ],
)

pub items_done : (xs : List Json) (i : ℕ) (holds : Tree → Type 0) → length xs ≤ i
    → OnItems (items_of (trees_of (drop i xs))) holds ↔ OnItems (items_of (trees_of xs)) holds
    → ¬ (OnItems (items_of (trees_of xs)) holds)
items_done xs i holds done left h =
    (subst (λ items. OnItems items holds) (at_drop_all (λ l. items_of (trees_of l)) xs i done) (left.1 h)).1

-- what is asked of a list's items is asked of the list
pub of_list : (t : Tree) (items : Items) (holds : Tree → Type 0) (b : Bool) → t ≡ list items → IsTrue b ↔ OnItems items holds → IsTrue b ↔ OnSome t holds
of_list t items holds b e h = subst (λ x. IsTrue b ↔ OnSome x holds) (sym e) h

-- what is opened: a field more, and one of the branches

abbrev Rest : Absent → List (List ℕ) → List ℕ → Wants → Wants → Tree → Type 0
Rest a at key ws found v = WithKeyMet a at key ws v × AllMet a at found v

pub field_opened : (a : Absent) (at : List (List ℕ)) (t : Tree) (key : List ℕ) (fs : Fields) (bs : Branches) (ws found : Wants) (k : List ℕ) (f : Field) (b : Bool)
    → IsTrue b ↔ OnSome t (λ v. FieldsMet a at fs v × BranchesMet a at bs v × WithKeyMet a at key ws v × AllMet a at ((k, f) ∷ found) v)
    → IsTrue b ↔ OnSome t (λ v. FieldsMet a at (field k f fs) v × BranchesMet a at bs v × WithKeyMet a at key ws v × AllMet a at found v)
field_opened a at t key fs bs ws found k f b is = (
  λ h. let r = is.0 h in (r.0, r.1, ((r.2.3.0, r.2.0), r.2.1, r.2.2, r.2.3.1)),
  λ r. is.1 (r.0, r.1, (r.2.0.1, r.2.1, r.2.2, (r.2.0.0, r.2.3))),
)

pub branch_opened : (a : Absent) (at : List (List ℕ)) (t : Tree) (key : List ℕ) (p : Pattern) (bs : Branches) (ws found : Wants) (b : Bool)
    → IsTrue b ↔ OnSome t (λ v. SomeMet a at (branch p bs) v × WithKeyMet a at key ws v × AllMet a at found v)
    → IsTrue b ↔ OnSome t (λ v. FieldsMet a at no_fields v × BranchesMet a at (branch p bs) v × WithKeyMet a at key ws v × AllMet a at found v)
branch_opened a at t key p bs ws found b is = (
  λ h. let r = is.0 h in (r.0, r.1, (tt, r.2.0, r.2.1, r.2.2)),
  λ r. is.1 (r.0, r.1, (r.2.1, r.2.2, r.2.3)),
)

pub some_first : (a : Absent) (at : List (List ℕ)) (t : Tree) (key : List ℕ) (fs : Fields) (inner bs : Branches) (ws found : Wants) (b : Bool)
    → IsTrue b ↔ OnSome t (λ v. FieldsMet a at fs v × BranchesMet a at inner v × WithKeyMet a at key ws v × AllMet a at found v) → IsTrue b
    → OnSome t (λ v. SomeMet a at (branch (pattern fs inner) bs) v × WithKeyMet a at key ws v × AllMet a at found v)
some_first a at t key fs inner bs ws found b is h = let r = is.0 h in (r.0, r.1, (inl (r.2.0, r.2.1), r.2.2, r.2.3))

pub some_later : (a : Absent) (at : List (List ℕ)) (t : Tree) (key : List ℕ) (fs : Fields) (inner bs : Branches) (ws found : Wants) (b c : Bool)
    → IsTrue b ↔ OnSome t (λ v. FieldsMet a at fs v × BranchesMet a at inner v × WithKeyMet a at key ws v × AllMet a at found v) → ¬ (IsTrue b)
    → IsTrue c ↔ OnSome t (λ v. SomeMet a at bs v × WithKeyMet a at key ws v × AllMet a at found v)
    → IsTrue c ↔ OnSome t (λ v. SomeMet a at (branch (pattern fs inner) bs) v × WithKeyMet a at key ws v × AllMet a at found v)
some_later a at t key fs inner bs ws found b c is none more = (
  λ h. let r = more.0 h in (r.0, r.1, (inr r.2.0, r.2.1, r.2.2)),
  λ r. elim r.2.0 [
    | inl here ↦ absurd (none (is.1 (r.0, r.1, (here.0, here.1, r.2.1, r.2.2))))
    | inr later ↦ more.1 (r.0, r.1, (later, r.2.1, r.2.2))
  ],
)

pub equal : (a b : List ℕ) → false ≡ not (bytes_eq a b) → a ≡ b
equal a b h = (bytes_eq-Decides a b).0 (is_true (bytes_eq a b) h)
  where
    is_true : (c : Bool) → false ≡ not c → c ≡ true
    is_true true e = refl
    is_true false e = cc

pub untrue : {X : Type 0} {b : Bool} → IsTrue b → b ≡ false → X
untrue h e = cc
