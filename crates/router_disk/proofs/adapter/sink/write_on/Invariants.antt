use Rattle.std.specs.Prelude.{◌≡◌, ℕ, List, ◌++◌}
use Rattle.std.specs.Io.KnownBytes.{Appends}
use Rattle.router_disk.proofs.adapter.sink.write_on.Given as goal

-- what is not left to write was written, and is shown
abbrev pub invariant-loop : goal.invariant-loop
invariant-loop g l =
    (first : List ℕ) × (l.bytes ≡ first ++ l.rest)
    × Appends (g.W.Write.contents l.fn.writer) (g.W.Write.contents l.writer) first
    × (l.wrote ≡ l.fn.wrote ++ first)
