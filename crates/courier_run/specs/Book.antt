-- Why a book made no claim or no record.
use Rattle.courier_run.specs.declared.book.BookFault.{BookFault}
use Rattle.courier_run.specs.declared.book.BookFault.TheVariants as faults
use Rattle.courier_run.specs.declared.stepped.Stop.{Stop}
use Rattle.courier_run.specs.declared.stepped.Stop.TheVariants as stops

-- `NumberLimit` only at the number limit, `Broken` only if the book is broken. `NoMemory` has no cause that a contract sees.
-- Shown by: outside_tests test_courier_run.rt: a_fault_leaves_no_claim_open.
abbrev pub HasCause : Type 0 → Type 0 → BookFault → Type 0
HasCause full broken faults.NumberLimit = full
HasCause full broken faults.Broken = broken
HasCause full broken faults.NoMemory = Unit {0}

-- What a fault of the book stops steps with.
-- Shown by: a_fault_ends_as_idle.edit.
abbrev pub stop_of : BookFault → Stop
stop_of faults.NumberLimit = stops.Full
stop_of faults.Broken = stops.Broken
stop_of faults.NoMemory = stops.NoMemory
