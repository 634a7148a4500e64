-- The exchanges of a link that had an answer, and what a link in memory plans.
use Rattle.std.specs.Prelude.{◌≡◌, ◌⊎◌, ℕ, zero, suc, List, [], ◌∷◌, ◌++◌, map, string_bytes, ⊤, Option, Some, None, Result, Ok, Err}
use Rattle.router_disk.specs.declared.link.LinkFault.{LinkFault}
use Rattle.router_disk.specs.declared.link.LinkFault.TheVariants.{Failed, NoMemory}
use Rattle.router_disk.specs.declared.memory.link.Answer.{Answer}
use Rattle.router_disk.specs.declared.memory.link.MemLink.{MemLink}
use Rattle.router_disk.specs.Faults.{last_count}

-- A text sent to an endpoint, and the status code of the reply.
-- Shown by: outside_tests test_router_disk.rt: a_link_in_memory_keeps_to_its_plan.
pub record Exchange : Type 0 where
  pub endpoint : List ℕ
  pub text : List ℕ
  pub code : ℕ

-- The exchange of one send, if it had an answer.
-- Shown by: an_answer_is_not_remembered.edit.
abbrev pub exchanges_of : Result ℕ LinkFault → List ℕ → List ℕ → List Exchange
exchanges_of (Ok code) endpoint text = record { endpoint = endpoint; text = text; code = code } ∷ []
exchanges_of (Err fault) endpoint text = []

-- if the exchanges were known before, these came after them
abbrev pub EndsWith : Option (List Exchange) → Option (List Exchange) → List Exchange → Type 0
EndsWith None new more = ⊤
EndsWith (Some old) None more = ⊥
EndsWith (Some old) (Some new) more = new ≡ old ++ more

-- If a link's exchanges are known, these came after them, in order, and no others.
-- Shown by: an_answer_is_not_remembered.edit.
pub record Answered (old new : Option (List Exchange)) (more : List Exchange) : Type 0 where
  pub in_order : EndsWith old new more

-- The exchange that a remembered answer shows.
-- Shown by: as exchanges_in.
abbrev pub exchange_of : Answer → Exchange
exchange_of a = record { endpoint = string_bytes a.endpoint; text = string_bytes a.text; code = a.code }

-- The exchanges that a link in memory remembers, in order.
-- Shown by: outside_tests test_router_disk.rt: a_link_in_memory_keeps_to_its_plan.
abbrev pub exchanges_in : MemLink → List Exchange
exchanges_in l = map exchange_of l.answers.items

-- this result, then those of the list, and the last of them forever
abbrev pub planned_from : Result ℕ LinkFault → List (Result ℕ LinkFault) → ℕ → Result ℕ LinkFault
planned_from r [] k = r
planned_from r (s ∷ later) zero = r
planned_from r (s ∷ later) (suc k) = planned_from s later k

-- The results that a link in memory plans, without end: at k, that of the k-th send from now on. The last one repeats forever.
-- Shown by: outside_tests test_router_disk.rt: a_link_in_memory_keeps_to_its_plan.
abbrev pub plan_of : MemLink → ℕ → Result ℕ LinkFault
plan_of l = planned_from l.planned l.later.items

-- A send gives the planned result, and the plan moves on. Otherwise it ran out of memory, or the count of faults is at its last value and
-- the send failed; then the plan stays.
-- Shown by: out_of_memory_in_place_of_a_failed_send.edit; outside_tests test_router_disk.rt: a_link_in_memory_keeps_to_its_plan.
abbrev pub KeepsToPlan : MemLink → MemLink → Result ℕ LinkFault → Type 0
KeepsToPlan old new result =
    ((result ≡ plan_of old 0) × ((k : ℕ) → plan_of new k ≡ plan_of old (suc k)))
    ⊎ (((result ≡ Err NoMemory) ⊎ ((result ≡ Err Failed) × (old.faults ≡ last_count))) × ((k : ℕ) → plan_of new k ≡ plan_of old k))
