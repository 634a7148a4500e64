-- The three counts of faults of a host, and its disks, doors and links.
use Rattle.std.specs.Prelude.{◌≡◌, ℕ, List}

-- None of a host's three counts changed.
-- Shown by: a_file_is_opened.edit.
pub record SameFaults {H : Type 0} (disk door link : H → ℕ) (old new : H) : Type 0 where
  pub same_disk : disk new ≡ disk old
  pub same_door : door new ≡ door old
  pub same_link : link new ≡ link old

-- Of one kind, disks, doors or links, the host gave nothing and took nothing back.
-- Shown by: program_tests program.rt: a_run_gives_its_link_back.
pub record SameGiven {H G B : Type 0} (given : H → List G) (back : H → List B) (old new : H) : Type 0 where
  pub same_given : given new ≡ given old
  pub same_back : back new ≡ back old
