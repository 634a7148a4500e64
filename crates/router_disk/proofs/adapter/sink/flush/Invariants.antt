use Rattle.std.specs.Io.KnownBytes.{Keeps}
use Rattle.router_disk.proofs.adapter.sink.flush.Given as goal

-- an interrupted flush changed nothing
abbrev pub invariant-loop : goal.invariant-loop
invariant-loop g l = Keeps (g.W.Write.contents l.fn.writer) (g.W.Write.contents l.writer)
