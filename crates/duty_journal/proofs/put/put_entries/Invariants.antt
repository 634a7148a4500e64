use Rattle.std.proofs.Common.{◌≡◌, ◌++◌, take, map}
use Rattle.std.specs.List.{flat_map, AllByRecursion}
use Rattle.entry_bytes.specs.Duty.{IsDuty}
use Rattle.router_requests.specs.View.{entry_of}
use Rattle.duty_journal.specs.Batch.{operation_bytes, IsOperation}
use Rattle.duty_journal.proofs.put.put_entries.Given as goal

abbrev pub invariant-loop-entry : goal.invariant-loop-entry
invariant-loop-entry l = record {
  bytes : l.out ≡ l.fn.out ++ flat_map operation_bytes (map entry_of (take l.entry-index l.entries));
  fits : AllByRecursion (IsOperation IsDuty) (map entry_of (take l.entry-index l.entries));
}
