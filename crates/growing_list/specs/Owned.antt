-- What a growing list owns.
use Rattle.std.specs.Prelude.{ℕ, List, map}
use base.Fraction.{full_share}
use base.Stored.{Gv}
use base.Growing.{latest}
use base.Fml.{Fml}
use Rattle.logbook.specs.Kept.{logs}

-- the whole right to say what the list of this name is, which is this list
unfoldable pub list_owns : {E : Type 0} → (E → Gv) → ℕ → List E → Fml
list_owns c η log = latest logs full_share η (map c log)
