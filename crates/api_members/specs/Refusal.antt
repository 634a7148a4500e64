-- The first refusal of a request's members.
use Rattle.std.specs.Prelude.{◌≡◌, ℕ, List, [], ◌∷◌, Option, Some, None}
use Rattle.json_text.specs.Tree.{Tree, text, Members}
use Rattle.json_text.specs.Checks.{Check, else_fault, AllHold, IsFirst}
use Rattle.pattern_read.specs.Refusal.{IsRefused, path_text}
use Rattle.pattern_read.specs.declared.fault.Why.{Why}
use Rattle.bus_policy.specs.Text.{IsTextFault}
use Rattle.bus_policy.specs.declared.fault.PolicyCause.{PolicyCause}
use Rattle.bus_policy.specs.declared.fault.PolicyCause.TheVariants as policy
use Rattle.bus_policy.specs.declared.fault.PolicyFault.{PolicyFault}
use Rattle.bus_policy.specs.declared.fault.PolicyFault.TheVariants as fault
use Rattle.api_replies.specs.declared.member.Member.{Member}
use Rattle.api_replies.specs.declared.cause.Cause.{Cause}
use Rattle.api_replies.specs.declared.cause.Cause.TheVariants as cause
use Rattle.api_members.specs.declared.asked.Syntax.{Syntax}
use Rattle.api_members.specs.declared.asked.Syntax.TheVariants as syntax
use Rattle.api_members.specs.declared.asked.Asked.{Asked}
use Rattle.api_members.specs.declared.asked.Asked.TheVariants.{Required, Optional}
use Rattle.api_members.specs.declared.fault.CallFault.{CallFault}
use Rattle.api_members.specs.declared.fault.CallFault.TheVariants.{Refused, NoMemory}
use Rattle.api_members.specs.Given.{given}
use Rattle.api_members.specs.Why.{why_name, policy_why_name}
use Rattle.api_members.specs.Value.{IsValid}

-- The text is no pattern for this reason, at this path.
-- Shown by: tables api_wire.rows: a_rule_is_refused_for_its_first_member.
abbrev pub IsPatternRefusal : List ℕ → Cause → Type 0
IsPatternRefusal t c = (why : Why) × (keys : List (List ℕ)) × IsRefused t why keys × (c ≡ cause.NotAPattern (why_name why) (path_text keys))

-- the refusal of a text that has this fault as a policy
abbrev pub policy_cause : PolicyCause → ℕ → Cause
policy_cause policy.TooLong place = cause.PolicyTooLong
policy_cause why place = cause.NotAPolicy (policy_why_name why) place

-- The text is no policy for this reason, with the place of the statement that has it; a text that is too long has a cause of its own.
-- Shown by: tables api_members.rows: a_text_is_no_policy_for_its_reason.
abbrev pub IsPolicyRefusal : List ℕ → Cause → Type 0
IsPolicyRefusal t c = (why : PolicyCause) × (place : ℕ) × IsTextFault t why place × (c ≡ policy_cause why place)

-- The value is refused for this cause: a text that is no pattern or no policy for its own reason, any other value as not valid.
-- Shown by: tables api_wire.rows: a_rule_is_refused_for_its_first_member, a_permission_is_refused_for_its_first_member.
abbrev pub IsValueRefused : Syntax → Member → Tree → Cause → Type 0
IsValueRefused syntax.Pattern m (text t) c = IsPatternRefusal t c
IsValueRefused syntax.Policy m (text t) c = IsPolicyRefusal t c
IsValueRefused s m tree c = (c ≡ cause.NotValid m) × (¬ IsValid s tree)

-- the check of a value, and what it is if no value is given
abbrev pub value_check : Check Cause → Syntax → Member → Option Tree → Check Cause
value_check absent s m None = absent
value_check absent s m (Some tree) = record { holds = IsValid s tree; refuses = IsValueRefused s m tree }

-- The check of a member that is asked: it is given and valid, or optional and absent.
-- Shown by: tables api_wire.rows: a_message_has_its_first_refusal.
abbrev pub asked_check : Members → Asked → Check Cause
asked_check ms (Required m s) = value_check (else_fault ⊥ (cause.Required m)) s m (given m ms)
asked_check ms (Optional m s) = value_check (else_fault (Unit {0}) (cause.Required m)) s m (given m ms)

-- The member is given and valid, or optional and absent.
-- Shown by: tables api_wire.rows: a_message_has_its_first_refusal.
abbrev pub IsSoundMember : Asked → Members → Type 0
IsSoundMember a ms = (asked_check ms a).holds

-- The checks of the members that are asked, in their order.
-- Shown by: tables api_wire.rows: a_message_has_its_first_refusal.
abbrev pub asked_checks : List Asked → Members → List (Check Cause)
asked_checks [] ms = []
asked_checks (a ∷ asked) ms = asked_check ms a ∷ asked_checks asked ms

-- The members have what is asked.
-- Shown by: tables api_wire.rows: a_message_has_its_first_refusal.
abbrev pub AreSound : List Asked → Members → Type 0
AreSound asked ms = AllHold (asked_checks asked ms)

-- The first refusal of the members that are asked.
-- Shown by: tables api_wire.rows: a_message_has_its_first_refusal.
abbrev pub IsFirstRefusal : List Asked → Members → Cause → Type 0
IsFirstRefusal asked ms = IsFirst (asked_checks asked ms)

-- The fault is a refusal for such a cause, or out of memory.
-- Shown by: tables api_wire.rows: a_message_has_its_first_refusal.
abbrev pub RefusedFor : (Cause → Type 0) → CallFault → Type 0
RefusedFor causes (Refused c) = causes c
RefusedFor causes NoMemory = Unit {0}

-- the fault of a request whose policy has this fault
abbrev pub IsPolicyFault : PolicyFault → CallFault → Type 0
IsPolicyFault (fault.Bad why place) (Refused c) = c ≡ policy_cause why place
IsPolicyFault fault.NoMemory (Refused c) = ⊥
IsPolicyFault f NoMemory = Unit {0}
