use Rattle.std.proofs.Common.{◌≡◌, ℕ, ◌<◌, Some, length, IsTrue}
use Rattle.key_tree.specs.Entries.{value_at, from_key}
use Rattle.delivery_duties.specs.declared.duty.DutyRow.{DutyRow}
use Rattle.delivery_duties.specs.Duties.{is_for_queue}
use Rattle.delivery_duties.proofs.schedule.is_any_for_queue.Given as goal

-- no duty before the place is for the queue
abbrev pub invariant-loop-key : goal.invariant-loop-key
invariant-loop-key l = (n : ℕ) (row : DutyRow) → n < l.from → value_at n l.rows ≡ Some row → IsTrue (is_for_queue l.queue row) → ⊥

abbrev pub decreases-loop-key : goal.decreases-loop-key
decreases-loop-key l = length (from_key l.from l.rows)
