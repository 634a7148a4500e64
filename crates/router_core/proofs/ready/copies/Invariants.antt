use Rattle.std.proofs.Common.{◌≡◌, length}
use Rattle.std.specs.Prelude.{All}
use Rattle.router_core.proofs.ready.copies.Given as goal

-- the pointers so far
abbrev pub invariant-loop : goal.invariant-loop
invariant-loop l = All (λ k. k ≡ l.event) l.list × (length l.list ≡ l.counter)
