use Rattle.std.proofs.Common.{◌≡◌, ◌++◌, length}
use Rattle.std.specs.Option.{option_copied}
use Rattle.json_text.specs.View.{trees_of}
use Rattle.config_views.specs.Views.{bus_items}
use Rattle.config_views.proofs.buses.bus_items.Given as goal

-- the items so far, and those of the buses that are left
abbrev pub invariant-loop-bus : goal.invariant-loop-bus
invariant-loop-bus l = trees_of l.items.items ++ bus_items (option_copied l.prefix) l.buses ≡ bus_items (option_copied l.prefix) l.set.buses

abbrev pub decreases-loop-bus : goal.decreases-loop-bus
decreases-loop-bus l = length l.buses
