use Rattle.std.proofs.Common.{◌≡◌}
use Rattle.tcp_host.proofs.tcp_source.TcpSource.read_on.Given as goal

-- waiting for bytes is no fault, and gives nothing
abbrev pub invariant-loop : goal.invariant-loop
invariant-loop g l = (l.self.faults ≡ l.initial.self.faults) × (l.self.gave ≡ l.initial.self.gave)
