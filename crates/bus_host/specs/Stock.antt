-- What a host in memory has of one kind, doors or links.
use Rattle.std.specs.Prelude.{◌≡◌, ◌⊎◌, ℕ, List, [], ◌∷◌, ◌++◌, Result, Err, MatchResult}
use Rattle.router_disk.specs.Faults.{last_count}
use Rattle.bus_host.specs.declared.host.HostFault.{HostFault}
use Rattle.bus_host.specs.declared.host.HostFault.TheVariants.{Failed}

-- What a host in memory has of one kind, doors or links: the results planned for the calls to come, what it gave, what came back, what of
-- that it still holds, and its count of failed calls.
-- Shown by: outside_tests test_bus_host.rt: a_host_in_memory_gives_what_it_plans.
pub record Stocked (T : Type 0) : Type 0 where
  pub planned : List (Result T HostFault)
  pub given : List T
  pub back : List T
  pub held : List T
  pub faults : ℕ

-- The first planned result, and the rest stays planned; a failure if nothing was planned.
-- Shown by: outside_tests test_bus_host.rt: a_host_in_memory_gives_what_it_plans.
abbrev pub IsFirst : {T : Type 0} → List (Result T HostFault) → List (Result T HostFault) → Result T HostFault → Type 0
IsFirst [] new result = (result ≡ Err Failed) × (new ≡ [])
IsFirst (first ∷ later) new result = (result ≡ first) × (new ≡ later)

-- A call returns the first planned result (`IsFirst`). At the last count it fails, and the plan stays.
-- Shown by: a_planned_refusal_is_a_failure.edit.
abbrev pub GoesByPlan : {T : Type 0} → Stocked T → Stocked T → Result T HostFault → Type 0
GoesByPlan old new result =
    IsFirst old.planned new.planned result
    ⊎ ((old.faults ≡ last_count) × (result ≡ Err Failed) × (new.planned ≡ old.planned))

-- What a call gave is now the last that was given; a call that gave nothing changes nothing.
-- Shown by: outside_tests test_bus_host.rt: a_host_in_memory_gives_what_it_plans.
abbrev pub GivesOne : {T E : Type 0} → List T → List T → Result T E → Type 0
GivesOne old new result = MatchResult result (λ given. new ≡ old ++ given ∷ []) (λ _. new ≡ old)

-- One came back: it is the last of those that did, and nothing else changed. It is held, unless memory is refused.
-- Shown by: an_object_that_was_taken_back_is_forgotten.edit.
pub record TookBack {T : Type 0} (old new : Stocked T) (one : T) : Type 0 where
  pub last : new.back ≡ old.back ++ one ∷ []
  pub held : (new.held ≡ old.held ++ one ∷ []) ⊎ (new.held ≡ old.held)
  pub rest : new ≡ record old { back = new.back; held = new.held }
