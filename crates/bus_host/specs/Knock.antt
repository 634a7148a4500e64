-- What a result of a door means for its count of faults.
use Rattle.std.specs.Prelude.{Result, Ok, Err}
use Rattle.bus_host.specs.declared.door.Knock.{Knock}
use Rattle.bus_host.specs.declared.door.Knock.TheVariants.{Conn, Quiet, Closed, Failed, NoMemory}

-- The outcome of a door's call for its count: only `Failed` is a fault.
-- Shown by: no_connection_comes_in_place_of_a_failure.edit.
abbrev pub knock_outcome : {I O : Type 0} → Knock I O → Result (Unit {0}) (Unit {0})
knock_outcome (Conn input output) = Ok tt
knock_outcome Quiet = Ok tt
knock_outcome Closed = Ok tt
knock_outcome Failed = Err tt
knock_outcome NoMemory = Ok tt
