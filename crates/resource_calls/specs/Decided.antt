-- The view of a decision in contracts, and what it needs to be made.
use Rattle.std.specs.Prelude.{◌≤◌, ℕ, map, length}
use Rattle.api_replies.specs.View.{reply_of}
use Rattle.router_core.specs.Admitted.{AreAdmitted, AreOfOneTurn}
use Rattle.router_core.specs.Ready.{ArePartsOf, AreMadeOn}
use Rattle.router_core.specs.Tables.{Tables}
use Rattle.router_requests.specs.View.{entry_of}
use Rattle.resource_calls.specs.Decision as answer
use Rattle.resource_calls.specs.declared.decided.Decided.{Decided}

-- What contracts see of the code's decision.
-- Shown by: tables router_calls.rows: each_request_is_answered.
abbrev pub decided_of : Decided → answer.Decided
decided_of d = record { entries = map entry_of d.entries.items; reply = reply_of d.reply }

-- Operations that the tables admit as a batch of this moment, each with its part.
-- Shown by: proofs alone.
pub record CanBeMade (t : Tables) (moment : ℕ) (d : Decided) : Type 0 where
  pub one_turn : 1 ≤ length (map entry_of d.entries.items) → AreOfOneTurn (map entry_of d.entries.items)
  pub admitted : AreAdmitted moment (map entry_of d.entries.items) t
  pub parts : ArePartsOf moment t.set (map entry_of d.entries.items) d.parts.items
  pub on : AreMadeOn moment t (map entry_of d.entries.items) d.parts.items
