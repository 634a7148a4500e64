-- What a clock in memory lends.
use Rattle.std.specs.Prelude.{◌≡◌, ℕ, List, [], ◌∷◌, Option, Some}
use Rattle.router_disk.specs.Clock.{repeating}

-- It lends the first planned clock, and the rest stays planned; once none is planned, one whose every reading is the given one. `ahead` is what
-- a clock's readings to come are.
-- Shown by: outside_tests test_bus_host.rt: a_clock_in_memory_lends_what_it_plans.
abbrev pub IsLent : {C : Type 0} → (C → Option (ℕ → ℕ)) → ℕ → List C → List C → C → Type 0
IsLent ahead reading [] new clock = (new ≡ []) × (ahead clock ≡ Some (repeating reading []))
IsLent ahead reading (first ∷ later) new clock = (new ≡ later) × (clock ≡ first)
