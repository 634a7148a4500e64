use Rattle.std.specs.Prelude.{◌≡◌, ℕ, List, ◌++◌}
use Rattle.tcp_host.proofs.tcp_sink.TcpSink.write_on.Given as goal

-- what is not left to write was written, and is shown; waiting for room is no fault
abbrev pub invariant-loop : goal.invariant-loop
invariant-loop g l =
    (first : List ℕ) × (l.bytes ≡ first ++ l.rest) × (l.self.wrote ≡ l.initial.self.wrote ++ first)
    × (l.self.faults ≡ l.initial.self.faults)
