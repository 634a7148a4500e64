-- What a result of a host means for its count of faults.
use Rattle.std.specs.Prelude.{Result, Ok, Err}
use Rattle.bus_host.specs.declared.host.HostFault.{HostFault}
use Rattle.bus_host.specs.declared.host.HostFault.TheVariants.{Failed, NoMemory}

-- The outcome of a host's call for its count: only `Failed` is a fault.
-- Shown by: out_of_memory_in_place_of_a_failure.edit.
abbrev pub host_outcome : {T : Type 0} → Result T HostFault → Result (Unit {0}) HostFault
host_outcome (Ok given) = Ok tt
host_outcome (Err Failed) = Err Failed
host_outcome (Err NoMemory) = Ok tt
