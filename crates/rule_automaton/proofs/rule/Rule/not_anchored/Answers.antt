use Rattle.std.proofs.lemmas.Bool.{false≢true}
use Rattle.rule_automaton.proofs.rule.Rule.not_anchored.Goals as goal

pub invariant_of-result : goal.invariant_of-result
invariant_of-result c = record { covered = ∣ (λ never. absurd (false≢true never)) ∣₁ }
