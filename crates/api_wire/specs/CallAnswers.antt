-- Faults of the calls that read a message.
use Rattle.std.specs.Prelude.{ℕ, List}
use Rattle.json_text.specs.Checks.{else_fault}
use Rattle.api_replies.specs.declared.cause.Cause.TheVariants as cause
use Rattle.api_members.specs.declared.fault.CallFault.{CallFault}
use Rattle.api_members.specs.Refusal.{RefusedFor}
use Rattle.api_messages.specs.declared.message.Message.{Message}
use Rattle.api_wire.specs.Call.{GivesBody, IsCallRefused}

-- The fault is the message's first refusal, or out of memory.
-- Shown by: tables api_wire.rows: a_message_has_its_first_refusal.
abbrev pub IsFault : Message → CallFault → Type 0
IsFault m = RefusedFor (IsCallRefused m)

-- the body is no object, or out of memory (no public clause names this)
abbrev pub IsBodyFault : List ℕ → CallFault → Type 0
IsBodyFault bytes = RefusedFor (else_fault (GivesBody bytes) cause.NoObject).refuses
