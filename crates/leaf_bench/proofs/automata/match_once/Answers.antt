use Rattle.std.proofs.Common.{ℕ, ◌<◌, List, sym, subst}
use Rattle.std.specs.Prelude.{All, length}
use Rattle.leaf_bench.proofs.automata.match_once.Goals as goal

pub matches-requires-clause-marks : goal.matches-requires-clause-marks
matches-requires-clause-marks c =
    subst (λ (rules : List (ℕ × List ℕ)). All (λ rule. rule.0 < length c.args.marks.now) rules) (sym c.requires.rules)
    (subst (λ n. All (λ rule. rule.0 < n) c.args.rules.now) c.places.ensures (c.have_places-is_placed.ensures c.if-is_placed.true))
