use Rattle.std.proofs.Common.{◌≡◌, ◌++◌, ◌≤◌, ◌-◌, vec_len, vec_capacity}
use Rattle.bus_host.specs.Host.{SameGiven}
use Rattle.bus_server.specs.Serve.{links_of, clocks_of}
use Rattle.bus_server.proofs.serve.take_owns.Given as goal

-- the host gave the links so far, a clock was lent with each, and nothing else changed
abbrev pub invariant-loop-host : goal.invariant-loop-host
invariant-loop-host g l = (g.H.Host.links_given l.host ≡ g.H.Host.links_given l.initial.host ++ links_of l.owns.items)
    × (g.H.Host.links_back l.host ≡ g.H.Host.links_back l.initial.host)
    × (g.C.Clocks.clocks_given l.clock ≡ g.C.Clocks.clocks_given l.initial.clock ++ clocks_of l.owns.items)
    × (g.C.Clocks.clocks_back l.clock ≡ g.C.Clocks.clocks_back l.initial.clock)
    × (g.C.Clock.gave l.clock ≡ g.C.Clock.gave l.initial.clock)
    × (vec_len l.owns ≤ l.count) × (l.count ≤ vec_capacity l.owns)
    × SameGiven g.H.Host.doors_given g.H.Host.doors_back l.initial.host l.host
    × SameGiven g.H.Host.disks_given g.H.Host.disks_back l.initial.host l.host
    × (g.H.Host.link_faults l.host ≡ g.H.Host.link_faults l.initial.host)
    × (g.H.Host.door_faults l.host ≡ g.H.Host.door_faults l.initial.host) × (g.H.Host.disk_faults l.host ≡ g.H.Host.disk_faults l.initial.host)

abbrev pub decreases-loop-host : goal.decreases-loop-host
decreases-loop-host g l = l.count - vec_len l.owns
