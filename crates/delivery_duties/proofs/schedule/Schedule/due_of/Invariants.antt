use Rattle.std.proofs.Common.{◌≡◌, ℕ, ◌<◌, Some, length}
use Rattle.key_tree.specs.Entries.{value_at, from_key}
use Rattle.delivery_duties.specs.declared.duty.DutyRow.{DutyRow}
use Rattle.delivery_duties.proofs.schedule.Schedule.due_of.Given as goal

-- no duty before the place has the number
abbrev pub invariant-loop-key : goal.invariant-loop-key
invariant-loop-key l = (n : ℕ) (row : DutyRow) → n < l.from → value_at n l.self-inside.line ≡ Some row → row.number ≡ l.number → ⊥

abbrev pub decreases-loop-key : goal.decreases-loop-key
decreases-loop-key l = length (from_key l.from l.self-inside.line)
