use Rattle.std.specs.Io.KnownBytes.{Keeps}
use Rattle.router_disk.proofs.adapter.source.read_on.Given as goal

-- an interrupted read consumed nothing
abbrev pub invariant-loop : goal.invariant-loop
invariant-loop g l = Keeps (g.R.Read.remaining l.fn.reader) (g.R.Read.remaining l.reader)
