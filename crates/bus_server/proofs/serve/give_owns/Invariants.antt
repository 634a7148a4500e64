use Rattle.std.proofs.Common.{◌≡◌, ◌++◌}
use Rattle.bus_host.specs.Host.{SameFaults, SameGiven}
use Rattle.bus_server.specs.Serve.{links_of, clocks_of}
use Rattle.bus_server.proofs.serve.give_owns.Given as goal

-- the links and clocks that came back and those that are left are all
abbrev pub invariant-loop-owns : goal.invariant-loop-owns
invariant-loop-owns g l = (g.H.Host.links_back l.host ++ links_of l.owns.items ≡ g.H.Host.links_back l.initial.host ++ links_of l.initial.owns.items)
    × (g.H.Host.links_given l.host ≡ g.H.Host.links_given l.initial.host)
    × (g.C.Clocks.clocks_back l.clock ++ clocks_of l.owns.items ≡ g.C.Clocks.clocks_back l.initial.clock ++ clocks_of l.initial.owns.items)
    × (g.C.Clocks.clocks_given l.clock ≡ g.C.Clocks.clocks_given l.initial.clock)
    × (g.C.Clock.gave l.clock ≡ g.C.Clock.gave l.initial.clock)
    × SameGiven g.H.Host.doors_given g.H.Host.doors_back l.initial.host l.host
    × SameGiven g.H.Host.disks_given g.H.Host.disks_back l.initial.host l.host
    × SameFaults g.H.Host.disk_faults g.H.Host.door_faults g.H.Host.link_faults l.initial.host l.host

abbrev pub decreases-loop-owns : goal.decreases-loop-owns
decreases-loop-owns g l = goal.left-loop-owns g l
