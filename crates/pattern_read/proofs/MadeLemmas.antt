-- If each check passes, the value is a pattern: `pattern_made`.
use Rattle.std.proofs.Common.{◌≡◌, ℕ, Bool, true, false, cond, List, [], ◌∷◌, ◌++◌, Option, Some, None, inl, inr, flat_map, codes, refl, subst}
use Rattle.std.specs.Str.{bytes_eq}
use Rattle.std.proofs.lemmas.Bool.{cases_Bool, cond-true}
use Rattle.std.proofs.lemmas.Slice.Eq.{bytes_eq-Decides}
use Rattle.json_text.specs.Tree.{Tree, text, list, object, Items, no_items, item, Members, no_members, member}
use Rattle.pattern_meaning.specs.Pattern.{Test, same, prefix, suffix, equals_ignoring_case, wildcard, anything_but, tests_of}
use Rattle.pattern_meaning.specs.Pattern.{Pattern, pattern, Field, tests, below, fields_of, branches_of}
use Rattle.pattern_read.specs.Kind.{named_in}
use Rattle.pattern_read.specs.Test.{IsOperand, IsTest, IsNamedTest, IsTextTest, AreTextTests, AreEach, texts_in}
use Rattle.json_text.specs.Access.{trees_in}
use Rattle.pattern_read.specs.Value.{IsPatternOf, AreMembers, IsFieldOf, IsOr, AreBranches, HasMember, HasItem, MayName, is_or, are_branches}
use Rattle.pattern_read.specs.Check.{Checks, AllPass, refused, text_checks, texts_checks, excluded_checks, operand_checks, named_checks, test_checks}
use Rattle.pattern_read.specs.Check.{no_member_checks, no_item_checks, id_checks, pattern_checks, members_checks, field_checks, or_checks, branches_checks}
use Rattle.pattern_read.specs.declared.fault.Why.TheVariants.{BadId, BadOr}
use Rattle.pattern_read.specs.declared.kind.Kind.{Kind}
use Rattle.pattern_read.specs.declared.kind.Kind.TheVariants.{Prefix, Suffix, EqualsIgnoreCase, Wildcard, AnythingBut}
use Rattle.pattern_read.proofs.CheckLemmas.{pass_front, pass_behind, pass_off}
use Rattle.pattern_read.proofs.PassLemmas.{value_checks, or_value, field_value}

each_made : {X Y : Type 0} (Is : X → Y → Type 0) (checks : X → Checks) → ((x : X) → AllPass (checks x) → (y : Y) × Is x y)
    → (xs : List X) → AllPass (flat_map checks xs) → (ys : List Y) × AreEach Is xs ys
each_made Is checks one [] h = ([], refl)
each_made Is checks one (x ∷ xs) h =
    let y = one x (pass_front (checks x) (flat_map checks xs) h) in
    let ys = each_made Is checks one xs (pass_behind (checks x) (flat_map checks xs) h) in
    (y.0 ∷ ys.0, (y.0, ys.0, refl, y.1, ys.1))

text_made : (kind : Kind) (t : List ℕ) → AllPass (text_checks kind t) → (test : Test) × IsTextTest kind t test
text_made Prefix t h = (prefix t, refl)
text_made Suffix t h = (suffix t, refl)
text_made EqualsIgnoreCase t h = (equals_ignoring_case t, refl)
text_made Wildcard t h = (wildcard h.0.0, (h.0.0, h.0.1, refl))
text_made _ t h = absurd h.0

texts_made : (kind : Kind) (texts : Option (List (List ℕ))) → AllPass (texts_checks kind texts)
    → (ts : List (List ℕ)) × (made : List Test) × (texts ≡ Some ts) × AreEach (IsTextTest kind) ts made
texts_made kind None h = absurd h.0
texts_made kind (Some ts) h = let made = each_made (IsTextTest kind) (text_checks kind) (text_made kind) ts h in (ts, made.0, refl, made.1)

excluded_made : (named : Option (Kind × Tree)) → AllPass (excluded_checks named) → (made : List Test) × AreTextTests named made
excluded_made None h = absurd h.0
excluded_made (Some named) h = let m = texts_made named.0 (texts_in named.1) h in (m.1, (m.0, m.2, m.3))

operand_made : (kind : Kind) (t : Tree) → AllPass (operand_checks kind t) → (test : Test) × IsOperand kind t test
operand_made Wildcard (text t) h = (wildcard h.0.0, (h.0.0, h.0.1, refl))
operand_made AnythingBut (object ms) h = let m = excluded_made (named_in ms) h in (anything_but (tests_of m.0), (m.0, m.1, refl))
operand_made kind t h = h.0

named_made : (named : Option (Kind × Tree)) → AllPass (named_checks named) → (test : Test) × IsNamedTest named test
named_made None h = absurd h.0
named_made (Some named) h = operand_made named.0 named.1 h

test_made : (t : Tree) → AllPass (test_checks t) → (test : Test) × IsTest t test
test_made (list items) h = absurd h.0
test_made (object ms) h = named_made (named_in ms) h
test_made t h = (same t, refl)

has_member : (ms : Members) → AllPass (no_member_checks ms) → HasMember ms
has_member no_members h = h.0
has_member (member key t ms) h = tt

has_item : (items : Items) → AllPass (no_item_checks items) → HasItem items
has_item no_items h = h.0
has_item (item t items) h = tt

may_name : (root : Bool) (key : List ℕ) → AllPass (id_checks root key) → MayName root key
may_name false key h = λ e. cc
may_name true key h = λ e is. (subst AllPass (cond-true (bytes_eq key (codes "id")) (refused BadId) [] ((bytes_eq-Decides key (codes "id")).1 is)) h).0

branching : (b : Bool) (some : Checks) → AllPass (cond b some (refused BadOr)) → (b ≡ true) × AllPass some
branching true some h = (refl, h)
branching false some h = absurd h.0

mutual
  pub pattern_made : (root : Bool) (t : Tree) → AllPass (pattern_checks root t) → (p : Pattern) × IsPatternOf root t p
  pattern_made root (object ms) h =
      let m = members_made root ms (pass_behind (no_member_checks ms) (members_checks root ms) h) in
      (pattern (fields_of m.0) (branches_of m.1), (has_member ms (pass_front (no_member_checks ms) (members_checks root ms) h), (m.0, m.1, m.2, refl)))
  pattern_made root _ h = absurd h.0

  members_made : (root : Bool) (ms : Members) → AllPass (members_checks root ms)
      → (fs : List (List ℕ × Field)) × (bs : List Pattern) × AreMembers root ms fs bs
  members_made root no_members h = ([], [], (refl, refl))
  members_made root (member key t ms) h =
      let first = pass_off key (value_checks root key t) (pass_front _ (members_checks root ms) h) in
      let more = members_made root ms (pass_behind _ (members_checks root ms) h) in
      elim (cases_Bool (is_or key)) [
        | inl matched ↦
            let made = or_made root t (subst AllPass (or_value root key t matched) first) in
            (more.0, made.0 ++ more.1, inl (made.0, more.1, matched, made.1, more.2, refl))
        | inr unlike ↦
            let both = subst AllPass (field_value root key t unlike) first in
            let made = field_made t (pass_behind (id_checks root key) (field_checks t) both) in (
              (key, made.0) ∷ more.0,
              more.1,
              inr (made.0, more.0, unlike, may_name root key (pass_front (id_checks root key) (field_checks t) both), made.1, more.2, refl),
            )
      ]

  field_made : (t : Tree) → AllPass (field_checks t) → (f : Field) × IsFieldOf t f
  field_made (list items) h =
      let each = each_made IsTest test_checks test_made (trees_in items) (pass_behind (no_item_checks items) (flat_map test_checks (trees_in items)) h) in
      (tests each.0, (has_item items (pass_front (no_item_checks items) (flat_map test_checks (trees_in items)) h), (each.0, each.1, refl)))
  field_made (object ms) h =
      let m = members_made false ms (pass_behind (no_member_checks ms) (members_checks false ms) h) in
      let p = pattern (fields_of m.0) (branches_of m.1) in
      (below p, (p, (has_member ms (pass_front (no_member_checks ms) (members_checks false ms) h), (m.0, m.1, m.2, refl)), refl))
  field_made _ h = absurd h.0

  or_made : (root : Bool) (t : Tree) → AllPass (or_checks root t) → (bs : List Pattern) × IsOr root t bs
  or_made root (list items) h =
      let b = branching (are_branches (trees_in items)) (branches_checks root items) h in
      let made = branches_made root items b.1 in
      (made.0, (b.0, made.1))
  or_made root _ h = absurd h.0

  branches_made : (root : Bool) (items : Items) → AllPass (branches_checks root items) → (bs : List Pattern) × AreBranches root items bs
  branches_made root no_items h = ([], refl)
  branches_made root (item t items) h =
      let first = pattern_made root t (pass_front (pattern_checks root t) (branches_checks root items) h) in
      let more = branches_made root items (pass_behind (pattern_checks root t) (branches_checks root items) h) in
      (first.0 ∷ more.0, (first.0, more.0, refl, first.1, more.1))
