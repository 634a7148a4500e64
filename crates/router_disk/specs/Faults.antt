-- Counts of faults: how an object of the outside shows that a call of it failed. A source, sink, clock or link that reports nothing meets
-- its contracts whatever it does. This project's own rule.
use Rattle.std.specs.Prelude.{◌≡◌, ℕ, ◌+◌, ◌-◌, ◌^◌, ◌≤◌, min, Result, Ok, Err, IsErr, OnOk, OnErr}
use Rattle.router_disk.specs.declared.link.LinkFault.{LinkFault}
use Rattle.router_disk.specs.declared.link.LinkFault.TheVariants.{Failed, NoMemory}

-- 2^64 - 1, the last value of a count of faults, at which it stays.
-- Shown by: outside_tests test_router_disk.rt: a_failed_call_loses_no_byte_and_is_counted.
abbrev pub last_count : ℕ
last_count = 2 ^ 64 - 1

-- The count rose by at least one, or was at its last value.
-- Shown by: outside_tests test_router_disk.rt: a_failed_call_loses_no_byte_and_is_counted.
abbrev pub Rose : ℕ → ℕ → Type 0
Rose before now = min (before + 1) last_count ≤ now

-- What a call whose every error is a fault does to its object's count. The count never falls; a failure raises it and nothing else changes
-- it; at its last value the call fails.
-- Shown by: outside_tests test_router_disk.rt: a_failed_call_loses_no_byte_and_is_counted.
pub record CountsFaults {T E : Type 0} (before now : ℕ) (result : Result T E) : Type 0 where
  -- the count never falls
  pub later : before ≤ now
  -- a failure is counted
  pub rose : OnErr result (Rose before now)
  -- only a failure is counted
  pub same : OnOk result (now ≡ before)
  -- at the last value each call fails
  pub spent : before ≡ last_count → IsErr result

-- The outcome of a link's call for its count: out of memory is no fault.
-- Shown by: failure_is_not_counted.edit.
abbrev pub link_outcome : {T : Type 0} → Result T LinkFault → Result (Unit {0}) LinkFault
link_outcome (Ok code) = Ok tt
link_outcome (Err Failed) = Err Failed
link_outcome (Err NoMemory) = Ok tt
