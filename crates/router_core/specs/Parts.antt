-- For private clauses alone: the duties with the part of a change.
use Rattle.std.specs.Prelude.{ℕ, List, Option, Some, None}
use Rattle.rule_table.specs.Control.{Control, queue_deleted}
use Rattle.delivery_duties.specs.Duties.{Duties, with_new_queue, forgotten}

-- the duties with the new queue, if there is one; it has no message
abbrev pub with_created : Option (List ℕ) → Duties → Duties
with_created None duties = duties
with_created (Some queue) duties = with_new_queue queue duties

-- the queue that the change deletes, if it deletes one
abbrev pub deleted_by : Control → Option (List ℕ)
deleted_by (queue_deleted name) = Some name
deleted_by _ = None

-- the duties without the deleted queue, if there is one, and its messages
abbrev pub with_forgotten : Option (List ℕ) → Duties → Duties
with_forgotten None duties = duties
with_forgotten (Some queue) duties = forgotten queue duties
