-- The names of the reasons why a text is no event pattern or no policy, as messages have them. This project's own.
use Rattle.std.specs.Prelude.{ℕ, List, codes}
use Rattle.pattern_read.specs.declared.fault.Why.{Why}
use Rattle.pattern_read.specs.declared.fault.Why.TheVariants as why
use Rattle.bus_policy.specs.declared.fault.PolicyCause.{PolicyCause}
use Rattle.bus_policy.specs.declared.fault.PolicyCause.TheVariants as policy

-- The name of the reason why a text is no pattern, as a message has it.
-- Shown by: tables api_wire.rows: a_rule_is_refused_for_its_first_member.
abbrev pub why_name : Why → List ℕ
why_name why.TooLong = codes "TooLong"
why_name why.NotJson = codes "NotJson"
why_name why.TooDeep = codes "TooDeep"
why_name why.KeyTwice = codes "KeyTwice"
why_name why.NotObject = codes "NotObject"
why_name why.EmptyObject = codes "EmptyObject"
why_name why.EmptyArray = codes "EmptyArray"
why_name why.BadId = codes "BadId"
why_name why.BadOr = codes "BadOr"
why_name why.UnknownTest = codes "UnknownTest"
why_name why.BadOperand = codes "BadOperand"
why_name why.BadNumeric = codes "BadNumeric"
why_name why.BadCidr = codes "BadCidr"
why_name why.BadWildcard = codes "BadWildcard"
why_name why.TooMany = codes "TooMany"

-- The name of the reason why a text is no policy, as a message has it.
-- Shown by: tables api_members.rows: a_text_is_no_policy_for_its_reason.
abbrev pub policy_why_name : PolicyCause → List ℕ
policy_why_name policy.TooLong = codes "TooLong"
policy_why_name policy.NotJson = codes "NotJson"
policy_why_name policy.TooDeep = codes "TooDeep"
policy_why_name policy.KeyTwice = codes "KeyTwice"
policy_why_name policy.NotObject = codes "NotObject"
policy_why_name policy.BadVersion = codes "BadVersion"
policy_why_name policy.BadSid = codes "BadSid"
policy_why_name policy.BadEffect = codes "BadEffect"
policy_why_name policy.BadPrincipal = codes "BadPrincipal"
policy_why_name policy.BadAction = codes "BadAction"
policy_why_name policy.BadResource = codes "BadResource"
policy_why_name policy.BadCondition = codes "BadCondition"
policy_why_name policy.UnknownMember = codes "UnknownMember"
