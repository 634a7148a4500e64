-- The first refusal of a list of members. Other files cite `IsSoFar`, `sound_so_far`, `refused_so_far`; `text_refused`, `policy_refused`.
use Rattle.std.proofs.Common.{ℕ, List, ◌∷◌, inl, inr, ap, ◌∙◌}
use Rattle.json_text.specs.Tree.{Members}
use Rattle.pattern_read.specs.Refusal.{IsFault}
use Rattle.pattern_read.specs.declared.fault.PatternFault.{PatternFault}
use Rattle.pattern_read.specs.declared.fault.PatternFault.TheVariants as pattern
use Rattle.bus_policy.specs.Fault.{IsFirstFaultOrMemory}
use Rattle.bus_policy.specs.declared.fault.PolicyFault.{PolicyFault}
use Rattle.bus_policy.specs.declared.fault.PolicyFault.TheVariants as policy
use Rattle.api_replies.specs.declared.cause.Cause.{Cause}
use Rattle.api_replies.specs.declared.cause.Cause.TheVariants as cause
use Rattle.api_members.specs.declared.asked.Asked.{Asked}
use Rattle.api_members.specs.declared.fault.CallFault.{CallFault}
use Rattle.api_members.specs.declared.fault.CallFault.TheVariants.{Refused, NoMemory}
use Rattle.api_members.specs.Refusal.{IsPatternRefusal, IsPolicyRefusal, IsSoundMember, asked_check, AreSound, IsFirstRefusal, RefusedFor, IsPolicyFault}
use Rattle.api_members.specs.Why.{why_name}
use Rattle.api_members.specs.Fault.{IsCallFault}

-- what is found of the members that are left is true of all
pub record IsSoFar (all left : List Asked) (ms : Members) : Type 0 where
  pub sound : AreSound left ms → AreSound all ms
  pub first : (c : Cause) → IsFirstRefusal left ms c → IsFirstRefusal all ms c

pub sound_so_far : (all left : List Asked) (a : Asked) (ms : Members) → IsSoFar all (a ∷ left) ms → IsSoundMember a ms → IsSoFar all left ms
sound_so_far all left a ms old is = record {
  sound = λ rest. old.sound (is, rest);
  first = λ c later. old.first c (inr (is, later));
}

pub refused_so_far : (all left : List Asked) (a : Asked) (ms : Members) (e : CallFault) → IsSoFar all (a ∷ left) ms
    → RefusedFor (asked_check ms a).refuses e → RefusedFor (IsFirstRefusal all ms) e
refused_so_far all left a ms (Refused c) old is = old.first c (inl is)
refused_so_far all left a ms NoMemory old is = tt

pub text_refused : (t : List ℕ) (f : PatternFault) (e : CallFault) → IsFault t f → IsCallFault f e → RefusedFor (IsPatternRefusal t) e
text_refused t (pattern.Refused why path) (Refused c) is so = (why, is.0, is.1, so ∙ ap (cause.NotAPattern (why_name why)) is.2)
text_refused t pattern.NoMemory (Refused c) is so = absurd so
text_refused t f NoMemory is so = tt

pub policy_refused : (t : List ℕ) (f : PolicyFault) (e : CallFault) → IsFirstFaultOrMemory t f → IsPolicyFault f e → RefusedFor (IsPolicyRefusal t) e
policy_refused t (policy.Bad why place) (Refused c) is so = (why, place, is, so)
policy_refused t policy.NoMemory (Refused c) is so = absurd so
policy_refused t f NoMemory is so = tt
