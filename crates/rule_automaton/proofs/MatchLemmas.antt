-- What holds is found: `held_can`. So what is decided is all: `decided_all`. Each mark has a place: `marks_below`.
use Rattle.std.proofs.Common.{◌≡◌, ℕ, zero, suc, ◌+◌, take, ◌<◌, ◌≤◌, replicate, set, Bool, true, false, ◌⊎◌, List, [], ◌∷◌, ◌++◌, length, map, get_or, inl, inr, refl, sym, ap, ◌∙◌, subst, arith}
use Rattle.std.specs.Prelude.{All, Contains, ◌↔◌}
use Rattle.std.specs.Arc.{arc_value}
use Rattle.std.specs.declared.alloc.Global.{Global}
use Rattle.std.specs.declared.sync.Arc.{Arc}
use Rattle.std.proofs.lemmas.Bool.{cases_Bool, cases_eq, false≢true, ltb-true, lt-ltb}
use Rattle.std.proofs.Math.Bool.{Bool-set}
use Rattle.std.proofs.Math.Logic.{∥∥₁_elim}
use Rattle.std.proofs.lemmas.List.{get_or_default, map_more, length-replicate, length-set, get_or-set_same, get_or-set_other}
use Rattle.std.proofs.lemmas.List.Elements.{All-contains, All-rest, All-head, All-same, Contains-get_or, Contains-push_cases}
use Rattle.json_text.specs.Tree.{Tree}
use Rattle.json_text.specs.Compact.{IsValue}
use Rattle.pattern_meaning.proofs.FrameLemmas.{rest_of}
use Rattle.pattern_meaning.specs.Alternatives.{Part}
use Rattle.pattern_meaning.specs.Holds.{IsMet}
use Rattle.value_index.specs.Hits.{Entry, Finds, AddsMet}
use Rattle.value_index.specs.declared.index.PathIndex.{PathIndex}
use Rattle.value_index.specs.Index.{entries_of}
use Rattle.json_text.specs.View.{tree_of}
use Rattle.event_flatten.specs.declared.leaf.Leaf.{Leaf}
use Rattle.event_flatten.specs.LeafView.{leaf_of}
use Rattle.event_flatten.specs.Leaves.{leaves_at, leaves_of}
use Rattle.rule_automaton.specs.declared.rule.Rule.{Rule}
use Rattle.rule_automaton.specs.declared.table.Table.{Table}
use Rattle.rule_automaton.specs.AnchorView.{parts_of}
use Rattle.rule_automaton.specs.RuleView.{rule_in}
use Rattle.rule_automaton.specs.Rules.{TextHolds, HoldsAs, AreMarked}
use Rattle.rule_automaton.specs.Table.{Entered, entered_by, entered_by_all, IsEntered, AreAt, entries_in, IsTableOf}
use Rattle.rule_automaton.specs.Matching.{entries_at, AreBelow, AreFound, CanHold, IsDecided, AreDecided}
use Rattle.rule_automaton.proofs.MemberLemmas.{nothing_in, first, later, in_cons, some_of, any_in, map_in, in_map, flat_in, in_flat}
use Rattle.rule_automaton.proofs.LeafLemmas.{leaf_there}
use Rattle.rule_automaton.proofs.ViewLaw.{view_found}

-- a rule whose pattern holds is marked, or has no anchors
pub held_can : (rules : List Rule) (table : Table) (event : Tree) (old new : List Bool) (rule : Rule) → ∥ IsTableOf (entered_by_all rules) table ∥₁ → IsValue event
    → AreFound table (leaves_of table.paths event) old new → Contains rules rule → TextHolds rule.pattern event → CanHold new rule
held_can rules table event old new rule is value found inside holds = elim (cases_Bool rule.anchored) [
  | inl sure ↦ inr (∥∥₁_elim is (Bool-set _ _) (λ is. ∥∥₁_elim rule.covered (Bool-set _ _) (λ covered.
      let parts = parts_of (arc_value rule.anchors).items in
      let view = holds.2 in
      let m = covered sure holds.0 holds.1 event view.0 view.2 in
      let entry : Entry = (m.4, rule.number) in
      let entered : IsEntered (entered_by_all rules) m.0.0 entry =
      ((rule.number, m.0), flat_in entered_by rules rule (rule.number, m.0) inside (map_in (λ (part : Part). (rule.number, part)) parts m.0 m.1), (refl, refl, m.5)) in
      let path = is.covers m.0.0 entry entered in
      let k = path.0 in
      let in_indexes : k < length table.indexes.items = omega (arith, path.1, table.same_length) in
      let index = some_of table.indexes.items k in_indexes in
      let at : AreAt (entered_by_all rules) m.0.0 (entries_at table k index) =
      subst (λ p. AreAt (entered_by_all rules) p (entries_at table k index)) path.2 (is.exact k m.0.0 index path.1) in
      let leaves = view_found event view.0 m.2 m.0.0 value view.1 m.3 in
      let leaf = leaf_there table.paths event m.2 k m.0.0 path.1 (subst (λ p. Contains (leaves_at p event) m.2) (sym path.2) leaves) in
      found.marked (k, m.2) index entry leaf ((at entry).1 entered) m.6)))
  | inr apart ↦ inl apart
]

pub decided_all : (rules : List Rule) (table : Table) (event : Tree) (old between found new : List Bool) → ∥ IsTableOf (entered_by_all rules) table ∥₁ → IsValue event
    → length between ≡ length old
    → AreFound table (leaves_of table.paths event) between found → AreDecided rules event found new → AreMarked (map rule_in rules) event old new
decided_all rules table event old between found new is value same marks decided = record {
  same_places = decided.same_places ∙ marks.same_places ∙ same;
  marked = λ place. (
    λ h.
        let r = decided.only place h in
        any_in (HoldsAs event place) (map rule_in rules) (rule_in r.0) (map_in rule_in rules r.0 r.1) (r.2, r.4),
    λ h.
        let r = in_map rule_in rules h.1 (h.0, h.2, h.3) in
        let holds : HoldsAs event place (rule_in r.0) = subst (HoldsAs event place) (sym r.2) h.4 in
        decided.all place (r.0, r.1, holds.0, held_can rules table event between found r.0 is value marks r.1 holds.1, holds.1),
  );
}

-- each mark is the number of a rule
pub marks_below : (rules : List Rule) (table : Table) (n : ℕ) → ∥ IsTableOf (entered_by_all rules) table ∥₁ → All (λ rule. rule.0 < n) (map rule_in rules)
    → AreBelow n table
marks_below rules table n is small place index within k d inside = ltb-true (get_or (entries_at table place index) k d).1 n (∥∥₁_elim is (Bool-set _ _) (λ is.
    let entries = entries_at table place index in
    let entry = get_or entries k d in
    let at = (is.exact place [] index within entry).0 (Contains-get_or entries k d inside) in
    let r = in_flat entered_by rules at.0 at.1 in
    let s = in_map (λ (part : Part). (r.0.number, part)) (parts_of (arc_value r.0.anchors).items) at.0 r.2 in
    let number : entry.1 ≡ r.0.number = at.2.1 ∙ sym (ap (λ (x : Entered). x.0) s.2) in
    let below = All-contains (λ rule. rule.0 < n) (map rule_in rules) (rule_in r.0) small (map_in rule_in rules r.0 r.1) in
    lt-ltb entry.1 n (omega (arith, number, below))))

pub found_none : (table : Table) (marks : List Bool) → AreFound table [] marks marks
found_none table marks = record {
  same_places = refl;
  marked = λ leaf index entry c inside met. absurd (nothing_in leaf c);
}

-- one leaf more
pub found_more : (table : Table) (leaves : List (ℕ × Tree)) (leaf : ℕ × Tree) (index : Arc PathIndex Global) (a b c : List Bool) → leaf.0 < length table.indexes.items
    → AreFound table leaves a b → AddsMet (entries_at table leaf.0 index) leaf.1 b c → AreFound table (leaves ++ leaf ∷ []) a c
found_more table leaves leaf index a b c within before adds = record {
  same_places = adds.same_places ∙ before.same_places;
  marked = λ other d entry inside entries met. elim (Contains-push_cases leaves leaf other inside) [
    | inl old ↦ (adds.marked entry.1).1 (inl (before.marked other d entry old entries met))
    | inr same ↦
        let there : Contains (entries_at table leaf.0 index) entry =
        subst (λ (l : List Entry). Contains l entry) (ap entries_in (ap (λ (x : ℕ × Tree). get_or table.indexes.items x.0 d) (sym same) ∙ get_or_default table.indexes.items leaf.0 d index within)) entries in
        let is : IsMet entry.0 leaf.1 = subst (λ (x : ℕ × Tree). IsMet entry.0 x.1) (sym same) met in
        (adds.marked entry.1).1 (inr (any_in (Finds leaf.1 entry.1) (entries_at table leaf.0 index) entry there (refl, is)))
  ];
}

none_marked : (n place : ℕ) → get_or (replicate n false) place false ≡ false
none_marked zero place = refl
none_marked (suc n) zero = refl
none_marked (suc n) (suc place) = none_marked n place

pub decided_none : (rules : List Rule) (event : Tree) (old new : List Bool) → ((n : ℕ) → IsDecided rules event old n → ⊥) → new ≡ replicate (length old) false
    → AreDecided rules event old new
decided_none rules event old new none cleared = record {
  same_places = ap length cleared ∙ length-replicate (length old) false;
  only = λ place h. absurd (false≢true (sym (none_marked (length old) place) ∙ sym (ap (λ l. get_or l place false) cleared) ∙ h));
  all = λ place h. absurd (none place h);
}

pub decided_more : (rules rest : List Rule) (rule : Rule) (event : Tree) (old between new : List Bool)
    → ((n : ℕ) → IsDecided rules event old n ↔ ((rule.number ≡ n) ⊎ IsDecided rest event old n)) → rule.number < length between
    → AreDecided rest event old between → new ≡ set between rule.number true → AreDecided rules event old new
decided_more rules rest rule event old between new splits within before grown = record {
  same_places = ap length grown ∙ length-set between rule.number true ∙ before.same_places;
  only = λ place h. elim (cases_eq place rule.number) [
    | inl same ↦ (splits place).1 (inl (sym same))
    | inr apart ↦ (splits place).1 (inr (before.only place (sym (get_or-set_other between rule.number place true false apart) ∙ sym (ap (λ l. get_or l place false) grown) ∙ h)))
  ];
  all = λ place h. ap (λ l. get_or l place false) grown ∙ (elim ((splits place).0 h) [
    | inl same ↦ subst (λ n. get_or (set between rule.number true) n false ≡ true) same (get_or-set_same between rule.number true false within)
    | inr more ↦ marked_still between rule.number place within (before.all place more)
  ]);
}
  where
    marked_still : (marks : List Bool) (n place : ℕ) → n < length marks → get_or marks place false ≡ true → get_or (set marks n true) place false ≡ true
    marked_still marks n place inside h = elim (cases_eq place n) [
      | inl same ↦ subst (λ m. get_or (set marks n true) m false ≡ true) (sym same) (get_or-set_same marks n true false inside)
      | inr apart ↦ get_or-set_other marks n place true false apart ∙ h
    ]

-- the first rule can hold and does
pub decided_first : (rules rest : List Rule) (rule : Rule) (event : Tree) (marks : List Bool) → rules ≡ rule ∷ rest → CanHold marks rule → TextHolds rule.pattern event
    → (n : ℕ) → IsDecided rules event marks n ↔ ((rule.number ≡ n) ⊎ IsDecided rest event marks n)
decided_first rules rest rule event marks is can holds n = (
  λ h. elim (in_cons rule h.0 rest (subst (λ l. Contains l h.0) is h.1)) [
    | inl same ↦ inl (ap (λ (x : Rule). x.number) same ∙ h.2)
    | inr more ↦ inr (h.0, more, h.2, h.3, h.4)
  ],
  λ h. elim h [
    | inl same ↦ (rule, subst (λ l. Contains l rule) (sym is) (first rule rest), same, can, holds)
    | inr more ↦ (more.0, subst (λ l. Contains l more.0) (sym is) (later rule more.0 rest more.1), more.2, more.3, more.4)
  ],
)

-- the first rule cannot hold, or does not
pub decided_skip : (rules rest : List Rule) (rule : Rule) (event : Tree) (marks : List Bool) → rules ≡ rule ∷ rest
    → (CanHold marks rule → TextHolds rule.pattern event → ⊥) → (n : ℕ) → IsDecided rules event marks n ↔ IsDecided rest event marks n
decided_skip rules rest rule event marks is none n = (
  λ h. elim (in_cons rule h.0 rest (subst (λ l. Contains l h.0) is h.1)) [
    | inl same ↦ absurd (none (subst (CanHold marks) (sym same) h.3) (subst (λ (x : Rule). TextHolds x.pattern event) (sym same) h.4))
    | inr more ↦ (h.0, more, h.2, h.3, h.4)
  ],
  λ more. (more.0, subst (λ l. Contains l more.0) (sym is) (later rule more.0 rest more.1), more.2, more.3, more.4),
)

pub rules_below : (rules : List Rule) (n : ℕ) → All (λ rule. rule.0 < n) (map rule_in rules) → All (λ (rule : Rule). rule.number < n) rules
rules_below rules n small k d within =
    All-contains (λ rule. rule.0 < n) (map rule_in rules) (rule_in (get_or rules k d)) small (map_in rule_in rules (get_or rules k d) (Contains-get_or rules k d within))

pub cleared_length : (old new : List Bool) → new ≡ replicate (length old) false → length new ≡ length old
cleared_length old new cleared = ap length cleared ∙ length-replicate (length old) false

pub found_next : (table : Table) (leaves : List Leaf) (i : ℕ) (leaf : Leaf) (index : Arc PathIndex Global) (inner : PathIndex) (a b c : List Bool) → i < length leaves
    → leaf ≡ get_or leaves i leaf → leaf.number < length table.indexes.items → inner ≡ arc_value (get_or table.indexes.items leaf.number index)
    → AreFound table (map leaf_of (take i leaves)) a b → AddsMet (entries_of inner) (tree_of leaf.value.now) b c
    → AreFound table (map leaf_of (take (i + 1) leaves)) a c
found_next table leaves i leaf index inner a b c within is there same before adds =
    let next : map leaf_of (take (i + 1) leaves) ≡ map leaf_of (take i leaves) ++ leaf_of leaf ∷ [] = map_more leaf_of leaves i leaf within
    ∙ ap (λ (x : Leaf). map leaf_of (take i leaves) ++ leaf_of x ∷ []) (sym is) in
    subst (λ l. AreFound table l a c) (sym next)
    (found_more table (map leaf_of (take i leaves)) (leaf_of leaf) index a b c there before
    (subst (λ (x : PathIndex). AddsMet (entries_of x) (tree_of leaf.value.now) b c) same adds))

pub held_first : (rules left : List Rule) (rule : Rule) (event : Tree) (marks : List Bool) → left ≡ rule ∷ rest_of left → length left ≤ length rules
    → All (λ (r : Rule). r.number < length marks) left → ((n : ℕ) → IsDecided rules event marks n ↔ IsDecided left event marks n) → CanHold marks rule
    → TextHolds rule.pattern event
    → (length (rest_of left) < length rules) × All (λ (r : Rule). r.number < length marks) (rest_of left) × (rule.number < length marks)
    × ((n : ℕ) → IsDecided rules event marks n ↔ ((rule.number ≡ n) ⊎ IsDecided (rest_of left) event marks n))
held_first rules left rule event marks is short below same can holds =
    let P : Rule → Type 0 = λ r. r.number < length marks in
    let count : length left ≡ suc (length (rest_of left)) = ap length is in (
      omega (arith, count, short),
      All-rest P rule (rest_of left) left is below,
      All-head P rule (rest_of left) (All-same P (rule ∷ rest_of left) left (sym is) below),
      λ n.
          let step = decided_first left (rest_of left) rule event marks is can holds n in
          (λ h. step.0 ((same n).0 h), λ h. (same n).1 (step.1 h)),
    )

pub skip_first : (rules left : List Rule) (rule : Rule) (event : Tree) (marks : List Bool) → left ≡ rule ∷ rest_of left → length left ≤ length rules
    → All (λ (r : Rule). r.number < length marks) left → ((n : ℕ) → IsDecided rules event marks n ↔ IsDecided left event marks n)
    → (CanHold marks rule → TextHolds rule.pattern event → ⊥)
    → (length (rest_of left) ≤ length rules) × All (λ (r : Rule). r.number < length marks) (rest_of left)
    × ((n : ℕ) → IsDecided rules event marks n ↔ IsDecided (rest_of left) event marks n)
skip_first rules left rule event marks is short below same none =
    let P : Rule → Type 0 = λ r. r.number < length marks in
    let count : length left ≡ suc (length (rest_of left)) = ap length is in (
      omega (arith, count, short),
      All-rest P rule (rest_of left) left is below,
      λ n.
          let step = decided_skip left (rest_of left) rule event marks is none n in
          (λ h. step.0 ((same n).0 h), λ h. (same n).1 (step.1 h)),
    )
