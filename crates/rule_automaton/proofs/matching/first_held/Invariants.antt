use Rattle.std.proofs.Common.{◌≤◌, ◌<◌, ℕ, length}
use Rattle.std.specs.Prelude.{◌↔◌, All}
use Rattle.json_text.specs.View.{tree_of}
use Rattle.rule_automaton.specs.declared.rule.Rule.{Rule}
use Rattle.rule_automaton.specs.Matching.{IsDecided}
use Rattle.rule_automaton.proofs.matching.first_held.Given as goal

abbrev pub invariant-loop-left : goal.invariant-loop-left
invariant-loop-left l =
    (length l.left ≤ length l.rules) × All (λ (rule : Rule). rule.number < length l.marks) l.left
    × ((number : ℕ) → IsDecided l.rules (tree_of l.event) l.marks number ↔ IsDecided l.left (tree_of l.event) l.marks number)

abbrev pub decreases-loop-left : goal.decreases-loop-left
decreases-loop-left l = length l.left
