-- A list of checks whose every check is decided has at most one first fault, and none if all hold: `one_first`, `none_first`. Those of
-- members are decided: `members_decided`; so is a condition with one fault: `else_decided`.
use Rattle.std.proofs.Common.{◌≡◌, inl, inr, List, [], ◌∷◌, Some, None, sym, ◌∙◌}
use Rattle.std.specs.Prelude.{Option}
use Rattle.json_text.specs.Tree.{Tree, text, Members}
use Rattle.api_replies.specs.declared.member.Member.{Member}
use Rattle.api_replies.specs.declared.cause.Cause.{Cause}
use Rattle.api_replies.specs.declared.cause.Cause.TheVariants as cause
use Rattle.api_members.specs.declared.asked.Syntax.{Syntax}
use Rattle.api_members.specs.declared.asked.Syntax.TheVariants as syntax
use Rattle.api_members.specs.declared.asked.Asked.{Asked}
use Rattle.api_members.specs.declared.asked.Asked.TheVariants.{Required, Optional}
use Rattle.pattern_read.specs.Refusal.{path_text}
use Rattle.pattern_read.proofs.RefusalLemmas.{never_refused}
use Rattle.api_members.proofs.PatternLemmas.{one_pattern_refusal}
use Rattle.api_members.proofs.PolicyLemmas.{never_faulty, one_fault}
use Rattle.api_members.specs.Why.{why_name}
use Rattle.api_members.specs.Given.{given}
use Rattle.api_members.specs.Value.{IsValid}
use Rattle.api_members.specs.Refusal.{policy_cause, IsValueRefused, value_check, asked_check, asked_checks, AreSound, IsFirstRefusal}
use Rattle.json_text.specs.Checks.{Check, else_fault, AllHold, IsFirst}

-- a check that holds refuses for nothing, and one that refuses does so for one fault
abbrev pub HasOneFault : {F : Type 0} → Check F → Type 0
HasOneFault {F} check = ((fault : F) → check.holds → check.refuses fault → ⊥) × ((f g : F) → check.refuses f → check.refuses g → f ≡ g)

abbrev pub HaveOneFault : {F : Type 0} → List (Check F) → Type 0
HaveOneFault [] = Unit {0}
HaveOneFault (check ∷ checks) = HasOneFault check × HaveOneFault checks

pub none_first : {F : Type 0} (checks : List (Check F)) (fault : F) → HaveOneFault checks → AllHold checks → IsFirst checks fault → ⊥
none_first [] fault decided all first = first
none_first (check ∷ checks) fault decided all (inl here) = decided.0.0 fault all.0 here
none_first (check ∷ checks) fault decided all (inr later) = none_first checks fault decided.1 all.1 later.1

pub one_first : {F : Type 0} (checks : List (Check F)) (f g : F) → HaveOneFault checks → IsFirst checks f → IsFirst checks g → f ≡ g
one_first [] f g decided p q = absurd p
one_first (check ∷ checks) f g decided (inl p) (inl q) = decided.0.1 f g p q
one_first (check ∷ checks) f g decided (inl p) (inr q) = absurd (decided.0.0 f q.0 p)
one_first (check ∷ checks) f g decided (inr p) (inl q) = absurd (decided.0.0 g p.0 q)
one_first (check ∷ checks) f g decided (inr p) (inr q) = one_first checks f g decided.1 p.1 q.1

pub else_decided : {F : Type 0} (condition : Type 0) (fault : F) → HasOneFault (else_fault condition fault)
else_decided condition fault = (λ f holds refused. refused.1 holds, λ f g p q. p.0 ∙ sym q.0)

valid_not_refused : (s : Syntax) (m : Member) (t : Tree) (c : Cause) → IsValid s t → IsValueRefused s m t c → ⊥
valid_not_refused syntax.Pattern m (text b) c v r = never_refused b v.0 r.0 r.1 v.1 r.2
valid_not_refused syntax.Policy m (text b) c v r = never_faulty b v.0 r.0 r.1 v.1 r.2
valid_not_refused _ m t c v r = r.1 v

one_refused : (s : Syntax) (m : Member) (t : Tree) (c d : Cause) → IsValueRefused s m t c → IsValueRefused s m t d → c ≡ d
one_refused syntax.Pattern m (text b) c d p q =
    let same = one_pattern_refusal b p.0 q.0 p.1 q.1 p.2 q.2 in
    p.3 ∙ (λ i. cause.NotAPattern (why_name (same.0 i)) (path_text (same.1 i))) ∙ sym q.3
one_refused syntax.Policy m (text b) c d p q =
    let same = one_fault b p.0 q.0 p.1 q.1 p.2 q.2 in
    p.3 ∙ (λ i. policy_cause (same.0 i) (same.1 i)) ∙ sym q.3
one_refused _ m t c d p q = p.0 ∙ sym q.0

value_decided : (absent : Check Cause) → HasOneFault absent → (s : Syntax) (m : Member) (v : Option Tree) → HasOneFault (value_check absent s m v)
value_decided absent decided s m None = decided
value_decided absent decided s m (Some t) = (valid_not_refused s m t, one_refused s m t)

member_decided : (ms : Members) (a : Asked) → HasOneFault (asked_check ms a)
member_decided ms (Required m s) =
    value_decided (else_fault ⊥ (cause.Required m)) (else_decided ⊥ (cause.Required m)) s m (given m ms)
member_decided ms (Optional m s) =
    value_decided (else_fault (Unit {0}) (cause.Required m)) (else_decided (Unit {0}) (cause.Required m)) s m (given m ms)

pub members_decided : (asked : List Asked) (ms : Members) → HaveOneFault (asked_checks asked ms)
members_decided [] ms = tt
members_decided (a ∷ asked) ms = (member_decided ms a, members_decided asked ms)

pub one_first_refusal : (asked : List Asked) (ms : Members) (c d : Cause) → IsFirstRefusal asked ms c → IsFirstRefusal asked ms d → c ≡ d
one_first_refusal asked ms c d p q = one_first (asked_checks asked ms) c d (members_decided asked ms) p q

pub sound_no_first : (asked : List Asked) (ms : Members) (c : Cause) → AreSound asked ms → IsFirstRefusal asked ms c → ⊥
sound_no_first asked ms c all first = none_first (asked_checks asked ms) c (members_decided asked ms) all first
