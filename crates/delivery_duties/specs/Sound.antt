-- For private clauses alone: the invariants of `Duties` and of its parts.
use Rattle.std.specs.Prelude.{◌≡◌, ℕ, ◌+◌, ◌<◌, ◌≤◌, ◌^◌, ◌⊎◌, List, All, Contains, length, Some}
use Rattle.key_tree.specs.Entries.{value_at, AreSorted}
use Rattle.delivery_duties.specs.declared.duty.DutyRow.{DutyRow}
use Rattle.delivery_duties.specs.declared.outcome.SettledDuty.{SettledDuty}
use Rattle.delivery_duties.specs.declared.outcome.Fate.TheVariants.{Pending}
use Rattle.delivery_queues.specs.Queues.{Queue}
use Rattle.delivery_duties.specs.Duties.{Duties, IsPending, HasEnded, delivered_of, dead_lettered_of, dropped_of}

-- the queue was sent at most this number of messages
abbrev pub IsQueueWithin : ℕ → Queue → Type 0
IsQueueWithin most m = m.sent ≤ most

-- each number from 1 to `created` is that of a pending duty or of one that ended, and not of both; none ended twice
pub record IsAccounted (created : ℕ) (pending : List (ℕ × DutyRow)) (ended : List SettledDuty) : Type 0 where
  pub given : All (λ d. d.number ≤ created) ended
  pub each : (n : ℕ) → 1 ≤ n → n ≤ created → IsPending n pending ⊎ HasEnded n ended
  pub apart : (n : ℕ) → IsPending n pending → HasEnded n ended → ⊥
  pub once : (d other : SettledDuty) → Contains ended d → Contains ended other → other.number ≡ d.number → other ≡ d
  pub made : (n : ℕ) → IsPending n pending → n ≤ created
  pub settled : All (λ d. d.fate ≡ Pending → ⊥) ended

-- each duty made so far is pending or has ended
pub record IsSound (s : Duties) : Type 0 where
  pub accounted : IsAccounted s.created s.pending s.ended
  pub sorted : AreSorted s.pending
  pub named : (n : ℕ) (row : DutyRow) → value_at n s.pending ≡ Some row → row.number ≡ n
  pub queues_within : All (IsQueueWithin (length s.ended)) s.queues
  pub one_state : s.created ≡ length s.pending + length s.ended
  pub room : s.created < 2 ^ 63

-- the counts are those of the duties that ended, each of which was delivered, dead-lettered or dropped
pub record AreCounted (delivered dead_lettered dropped : ℕ) (ended : List SettledDuty) : Type 0 where
  pub delivered_so : delivered ≡ delivered_of ended
  pub dead_lettered_so : dead_lettered ≡ dead_lettered_of ended
  pub dropped_so : dropped ≡ dropped_of ended
  pub all : length ended ≡ delivered + dead_lettered + dropped
