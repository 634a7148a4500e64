-- The files of a host in memory, and the disks over them.
use Rattle.std.specs.Prelude.{◌≡◌, ◌⊎◌, ℕ, List, [], ◌∷◌, ◌++◌, Result, Ok, Err}
use Rattle.router_disk.specs.Faults.{last_count}
use Rattle.memory_disk.specs.HeldDisk.{HeldDisk}
use Rattle.bus_host.specs.declared.host.HostFault.{HostFault}
use Rattle.bus_host.specs.declared.host.HostFault.TheVariants.{Failed, NoMemory}
use Rattle.bus_host.specs.declared.mem_files.MemFile.{MemFile}

-- What a host in memory has of files: the results planned for the calls to come, the disks that it gave, each after its path, those that came
-- back, what of these it still holds, and its count of failed calls.
-- Shown by: outside_tests test_bus_host.rt: a_host_in_memory_opens_its_files.
pub record HeldFiles : Type 0 where
  pub planned : List (Result MemFile HostFault)
  pub given : List (List ℕ × HeldDisk)
  pub back : List HeldDisk
  pub held : List HeldDisk
  pub faults : ℕ

-- A disk over the file, with no call yet.
-- Shown by: outside_tests test_bus_host.rt: a_host_in_memory_opens_its_files.
abbrev pub disk_over : MemFile → HeldDisk
disk_over file = record { first = file.bytes.items; calls = []; plan = file.fails.items; faults = 0 }

-- What a call returns if this was planned for it: a disk over the file, unless memory is refused, or the planned fault.
-- Shown by: outside_tests test_bus_host.rt: a_host_in_memory_opens_its_files.
abbrev pub OpensPlanned : Result MemFile HostFault → Result HeldDisk HostFault → Type 0
OpensPlanned (Ok file) result = (result ≡ Ok (disk_over file)) ⊎ (result ≡ Err NoMemory)
OpensPlanned (Err fault) result = result ≡ Err fault

-- The first planned result, and the rest stays planned; a failure if nothing was planned.
-- Shown by: outside_tests test_bus_host.rt: a_host_in_memory_opens_its_files.
abbrev pub OpensFirst : List (Result MemFile HostFault) → List (Result MemFile HostFault) → Result HeldDisk HostFault → Type 0
OpensFirst [] new result = (result ≡ Err Failed) × (new ≡ [])
OpensFirst (first ∷ later) new result = OpensPlanned first result × (new ≡ later)

-- A call opens the file that is planned first (`OpensFirst`). At the last count it fails, and the plan stays.
-- Shown by: outside_tests test_bus_host.rt: a_host_in_memory_opens_its_files.
abbrev pub OpensByPlan : HeldFiles → HeldFiles → Result HeldDisk HostFault → Type 0
OpensByPlan old new result =
    OpensFirst old.planned new.planned result
    ⊎ ((old.faults ≡ last_count) × (result ≡ Err Failed) × (new.planned ≡ old.planned))

-- A disk came back: it is the last of those that did, and nothing else changed. It is held, unless memory is refused.
-- Shown by: outside_tests test_bus_host.rt: a_host_in_memory_opens_its_files.
pub record TookDiskBack (old new : HeldFiles) (disk : HeldDisk) : Type 0 where
  pub last : new.back ≡ old.back ++ disk ∷ []
  pub held : (new.held ≡ old.held ++ disk ∷ []) ⊎ (new.held ≡ old.held)
  pub rest : new ≡ record old { back = new.back; held = new.held }
