-- If a value is a pattern, each check passes: `test_passes`, `field_passes`, `pattern_passes`.
use Rattle.std.proofs.Common.{◌≡◌, ℕ, Bool, true, false, cond, List, [], ◌++◌, Option, Some, None, inl, inr, flat_map, codes, refl, sym, subst}
use Rattle.std.specs.Str.{bytes_eq}
use Rattle.std.proofs.lemmas.Bool.{cases_Bool, cond-true, cond-false}
use Rattle.std.proofs.lemmas.Slice.Eq.{bytes_eq-Decides}
use Rattle.json_text.specs.Tree.{Tree, text, list, object, Items, no_items, item, Members, no_members, member}
use Rattle.pattern_meaning.specs.Pattern.{Test, Pattern, Field}
use Rattle.pattern_read.specs.Kind.{named_in}
use Rattle.pattern_read.specs.Test.{IsOperand, IsTest, IsNamedTest, IsTextTest, AreTextTests}
use Rattle.json_text.specs.Access.{trees_in}
use Rattle.pattern_read.specs.Value.{IsPatternOf, AreMembers, IsFieldOf, IsOr, AreBranches, HasMember, HasItem, MayName, is_or, are_branches}
use Rattle.pattern_read.specs.Check.{Checks, AllPass, refused, under, text_checks, texts_checks, excluded_checks, operand_checks, named_checks, test_checks}
use Rattle.pattern_read.specs.Check.{no_member_checks, no_item_checks, id_checks, pattern_checks, members_checks, field_checks, or_checks, branches_checks}
use Rattle.pattern_read.specs.declared.fault.Why.TheVariants.{BadId, BadOr}
use Rattle.pattern_read.specs.declared.kind.Kind.{Kind}
use Rattle.pattern_read.specs.declared.kind.Kind.TheVariants.{Prefix, Suffix, EqualsIgnoreCase, Wildcard, AnythingBut}
use Rattle.pattern_read.proofs.CheckLemmas.{pass_both, pass_under, each_passes}

pub text_passes : (kind : Kind) (t : List ℕ) (test : Test) → IsTextTest kind t test → AllPass (text_checks kind t)
text_passes Prefix t test h = tt
text_passes Suffix t test h = tt
text_passes EqualsIgnoreCase t test h = tt
text_passes Wildcard t test h = ((h.0, h.1), tt)
text_passes _ t test h = absurd h

excluded_pass : (named : Option (Kind × Tree)) (tests : List Test) → AreTextTests named tests → AllPass (excluded_checks named)
excluded_pass None tests h = absurd h
excluded_pass (Some named) tests h =
    subst (λ o. AllPass (texts_checks named.0 o)) (sym h.1) (each_passes (IsTextTest named.0) (text_checks named.0) (text_passes named.0) h.0 tests h.2)

operand_passes : (kind : Kind) (t : Tree) (test : Test) → IsOperand kind t test → AllPass (operand_checks kind t)
operand_passes Wildcard (text t) test h = ((h.0, h.1), tt)
operand_passes AnythingBut (object ms) test h = excluded_pass (named_in ms) h.0 h.1
operand_passes kind t test h = ((test, h), tt)

named_passes : (named : Option (Kind × Tree)) (test : Test) → IsNamedTest named test → AllPass (named_checks named)
named_passes None test h = absurd h
named_passes (Some named) test h = operand_passes named.0 named.1 test h

pub test_passes : (t : Tree) (test : Test) → IsTest t test → AllPass (test_checks t)
test_passes (list items) test h = absurd h
test_passes (object ms) test h = named_passes (named_in ms) test h
test_passes _ test h = tt

pub member_there : (ms : Members) → HasMember ms → AllPass (no_member_checks ms)
member_there no_members h = absurd h
member_there (member key t ms) h = tt

pub item_there : (items : Items) → HasItem items → AllPass (no_item_checks items)
item_there no_items h = absurd h
item_there (item t items) h = tt

pub id_passes : (root : Bool) (key : List ℕ) → MayName root key → AllPass (id_checks root key)
id_passes false key h = tt
id_passes true key h = elim (cases_Bool (bytes_eq key (codes "id"))) [
  | inl matched ↦ absurd (h refl ((bytes_eq-Decides key (codes "id")).0 matched))
  | inr unlike ↦ subst AllPass (sym (cond-false (bytes_eq key (codes "id")) (refused BadId) [] unlike)) tt
]

-- the checks of a member's value
abbrev pub value_checks : Bool → List ℕ → Tree → Checks
value_checks root key t = cond (is_or key) (or_checks root t) (id_checks root key ++ field_checks t)

pub or_value : (root : Bool) (key : List ℕ) (t : Tree) → is_or key ≡ true → value_checks root key t ≡ or_checks root t
or_value root key t matched = cond-true (is_or key) (or_checks root t) (id_checks root key ++ field_checks t) matched

pub field_value : (root : Bool) (key : List ℕ) (t : Tree) → is_or key ≡ false → value_checks root key t ≡ id_checks root key ++ field_checks t
field_value root key t unlike = cond-false (is_or key) (or_checks root t) (id_checks root key ++ field_checks t) unlike

mutual
  pub pattern_passes : (root : Bool) (t : Tree) (p : Pattern) → IsPatternOf root t p → AllPass (pattern_checks root t)
  pattern_passes root (object ms) p h =
      pass_both (no_member_checks ms) (members_checks root ms) (member_there ms h.0) (members_pass root ms h.1.0 h.1.1 h.1.2)
  pattern_passes root _ p h = absurd h

  members_pass : (root : Bool) (ms : Members) (fs : List (List ℕ × Field)) (bs : List Pattern) → AreMembers root ms fs bs → AllPass (members_checks root ms)
  members_pass root no_members fs bs h = tt
  members_pass root (member key t ms) fs bs h = elim h [
    | inl (mine, rest, matched, made, more, e) ↦
        pass_both (under key (value_checks root key t)) (members_checks root ms)
        (pass_under key (value_checks root key t) (subst AllPass (sym (or_value root key t matched)) (or_passes root t mine made)))
        (members_pass root ms fs rest more)
    | inr (f, rest, unlike, may, made, more, e) ↦
        pass_both (under key (value_checks root key t)) (members_checks root ms)
        (pass_under key (value_checks root key t) (subst AllPass (sym (field_value root key t unlike))
        (pass_both (id_checks root key) (field_checks t) (id_passes root key may) (field_passes t f made)))) (members_pass root ms rest bs more)
  ]

  pub field_passes : (t : Tree) (f : Field) → IsFieldOf t f → AllPass (field_checks t)
  field_passes (list items) f h =
      pass_both (no_item_checks items) (flat_map test_checks (trees_in items)) (item_there items h.0)
      (each_passes IsTest test_checks test_passes (trees_in items) h.1.0 h.1.1)
  field_passes (object ms) f h =
      pass_both (no_member_checks ms) (members_checks false ms) (member_there ms h.1.0) (members_pass false ms h.1.1.0 h.1.1.1 h.1.1.2)
  field_passes _ f h = absurd h

  pub or_passes : (root : Bool) (t : Tree) (bs : List Pattern) → IsOr root t bs → AllPass (or_checks root t)
  or_passes root (list items) bs h =
      subst AllPass (sym (cond-true (are_branches (trees_in items)) (branches_checks root items) (refused BadOr) h.0)) (branches_pass root items bs h.1)
  or_passes root _ bs h = absurd h

  branches_pass : (root : Bool) (items : Items) (bs : List Pattern) → AreBranches root items bs → AllPass (branches_checks root items)
  branches_pass root no_items bs h = tt
  branches_pass root (item t items) bs h =
      pass_both (pattern_checks root t) (branches_checks root items) (pattern_passes root t h.0 h.3) (branches_pass root items h.1 h.4)
