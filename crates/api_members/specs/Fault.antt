-- The faults of lower calls, as those of a request.
use Rattle.std.specs.Prelude.{◌≡◌}
use Rattle.json_text.specs.declared.fault.JsonFault.{JsonFault}
use Rattle.json_text.specs.declared.fault.JsonFault.TheVariants as text
use Rattle.pattern_read.specs.declared.fault.PatternFault.{PatternFault}
use Rattle.pattern_read.specs.declared.fault.PatternFault.TheVariants as pattern
use Rattle.api_replies.specs.declared.cause.Cause.TheVariants as cause
use Rattle.api_members.specs.Why.{why_name}
use Rattle.api_members.specs.declared.fault.CallFault.{CallFault}
use Rattle.api_members.specs.declared.fault.CallFault.TheVariants.{Refused, NoMemory}

-- the fault of a request whose pattern has this fault
abbrev pub IsCallFault : PatternFault → CallFault → Type 0
IsCallFault (pattern.Refused why path) (Refused c) = c ≡ cause.NotAPattern (why_name why) path
IsCallFault pattern.NoMemory (Refused c) = ⊥
IsCallFault fault NoMemory = Unit {0}

-- the fault of a request whose body has this fault
abbrev pub body_fault : JsonFault → CallFault
body_fault (text.NotJson at) = Refused cause.NoObject
body_fault (text.TooDeep at) = Refused cause.NoObject
body_fault (text.KeyTwice at) = Refused cause.NoObject
body_fault text.NoMemory = NoMemory
