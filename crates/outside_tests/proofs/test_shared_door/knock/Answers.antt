use Rattle.std.proofs.Common.{◌≡◌, ◌⊎◌, ℕ, true, List, sym, subst}
use Rattle.std.specs.Prelude.{◌==◌}
use Rattle.std.specs.List.{list_any}
use Rattle.shared_door.specs.Knocks.{number_of}
use Rattle.outside_tests.proofs.test_shared_door.knock.Goals as goal

pub back-front-requires-clause-fits : goal.back-front-requires-clause-fits
back-front-requires-clause-fits g c κs lives = let cut = c.add-ledger.result.1 in let items = c.add-ledger.result.0.entries.items in
    subst (λ (l : List (ℕ × ℕ)). (cut ≡ true) ⊎ (list_any (λ (t : ℕ × ℕ). t.1 == number_of c.in-Conn.connection) l ≡ true)) (sym c.give.ensures.seen)
    (subst (λ (k : ℕ). (cut ≡ true) ⊎ (list_any (λ (t : ℕ × ℕ). t.1 == k) items ≡ true)) c.number-in-Conn.ensures c.add-ledger.ensures.served)
