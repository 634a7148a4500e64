-- What a door in memory plans and remembers.
use Rattle.std.specs.Prelude.{List, [], ◌∷◌}
use Rattle.bus_host.specs.declared.mem_door.Plan.{Plan}
use Rattle.bus_host.specs.declared.mem_door.Plan.TheVariants.{Conn, Quiet, Failed, NoMemory}

-- The connections among the plans of a door in memory, in order.
-- Shown by: outside_tests test_bus_host.rt: a_door_in_memory_gives_what_it_plans.
abbrev pub connections_of : {I O : Type 0} → List (Plan I O) → List (I × O)
connections_of [] = []
connections_of (Conn input output ∷ plans) = (input, output) ∷ connections_of plans
connections_of (Quiet ∷ plans) = connections_of plans
connections_of (Failed ∷ plans) = connections_of plans
connections_of (NoMemory ∷ plans) = connections_of plans
