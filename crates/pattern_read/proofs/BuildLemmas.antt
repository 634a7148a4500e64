-- The exits of the readers of objects and of `$or`: `has_some`, `reported_members`, `or_read`, `no_or`, `tests_read`.
use Rattle.std.proofs.Common.{◌≡◌, ℕ, Bool, true, false, List, [], ◌∷◌, ◌++◌, Ok, Err, Result, None, inl, flat_map, refl, sym, ap, ◌∙◌, subst}
use Rattle.std.proofs.lemmas.Bool.{cond-true, cond-false}
use Rattle.json_text.specs.Tree.{Tree, list, Members, members_of, items_of}
use Rattle.json_text.specs.View.{pairs_of, trees_of}
use Rattle.json_text.specs.declared.value.Json.{Json}
use Rattle.pattern_meaning.specs.Pattern.{Test, Pattern, tests}
use Rattle.pattern_read.specs.Test.{AreEach, IsTest}
use Rattle.json_text.specs.Access.{trees_in}
use Rattle.pattern_read.specs.Value.{HasMember, IsFieldOf, IsOr, AreBranches, are_branches}
use Rattle.pattern_read.specs.Check.{refused, no_member_checks, members_checks, field_checks, or_checks, branches_checks, test_checks}
use Rattle.pattern_read.specs.Reading.{IsReported, Gives, Adds}
use Rattle.pattern_read.specs.declared.fault.Why.TheVariants.{BadOr}
use Rattle.pattern_read.specs.declared.fault.Fault.{Fault}
use Rattle.pattern_read.specs.declared.fault.Fault.TheVariants as fault
use Rattle.pattern_read.proofs.CheckLemmas.{reported_behind}
use Rattle.pattern_read.proofs.PassLemmas.{member_there}
use Rattle.pattern_read.proofs.ExcludedLemmas.{trees_back}

pub has_some : (xs : List (List ℕ × Json)) → (xs ≡ [] → ⊥) → HasMember (members_of (pairs_of xs))
has_some [] some = absurd (some refl)
has_some (x ∷ xs) some = tt

pub reported_members : (root : Bool) (ms : Members) (e : Fault) → HasMember ms → IsReported (members_checks root ms) e
    → IsReported (no_member_checks ms ++ members_checks root ms) e
reported_members root ms e has h = reported_behind (no_member_checks ms) (members_checks root ms) e (member_there ms has) h

branches_there : (xs : List Tree) (b : Bool) → are_branches xs ≡ b → are_branches (trees_in (items_of xs)) ≡ b
branches_there xs b h = ap are_branches (trees_back xs) ∙ h

pub or_read : {X : Type 0} (view : X → List Pattern) (root : Bool) (xs : List Tree) (old : List Pattern) (r : Result X Fault) → are_branches xs ≡ true
    → Gives view (Adds old (AreBranches root (items_of xs))) (branches_checks root (items_of xs)) r
    → Gives view (Adds old (IsOr root (list (items_of xs)))) (or_checks root (list (items_of xs))) r
or_read view root xs old (Ok x) two h = (h.0, (branches_there xs true two, h.1), h.2)
or_read view root xs old (Err e) two h =
    subst (λ cs. IsReported cs e)
    (sym (cond-true (are_branches (trees_in (items_of xs))) (branches_checks root (items_of xs)) (refused BadOr) (branches_there xs true two))) h

pub no_or : (root : Bool) (xs : List Tree) → are_branches xs ≡ false → IsReported (or_checks root (list (items_of xs))) (fault.Refused BadOr None)
no_or root xs none =
    subst (λ cs. IsReported cs (fault.Refused BadOr None))
    (sym (cond-false (are_branches (trees_in (items_of xs))) (branches_checks root (items_of xs)) (refused BadOr) (branches_there xs false none)))
    ([], inl (λ h. h, refl, refl), refl)

-- the tests of a list with a value
pub tests_read : (xs : List Json) (ts : List Test) → (xs ≡ [] → ⊥) → AreEach IsTest (trees_of xs) ts → IsFieldOf (list (items_of (trees_of xs))) (tests ts)
tests_read [] ts some h = absurd (some refl)
tests_read (x ∷ xs) ts some h = (tt, (ts, subst (λ trees. AreEach IsTest trees ts) (sym (trees_back (trees_of (x ∷ xs)))) h, refl))

pub tests_refused : (xs : List Json) (e : Fault) → (xs ≡ [] → ⊥) → IsReported (flat_map test_checks (trees_of xs)) e
    → IsReported (field_checks (list (items_of (trees_of xs)))) e
tests_refused [] e some h = absurd (some refl)
tests_refused (x ∷ xs) e some h = subst (λ trees. IsReported (flat_map test_checks trees) e) (sym (trees_back (trees_of (x ∷ xs)))) h
