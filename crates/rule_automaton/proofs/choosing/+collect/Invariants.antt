use Rattle.rule_automaton.specs.AnchorView.{parts_of}
use Rattle.rule_automaton.specs.Keys.{keys_of}
use Rattle.rule_automaton.proofs.AnchorLemmas.{AreDone}
use Rattle.rule_automaton.proofs.choosing.+collect.Given as goal

abbrev pub invariant-add_branches-loop-branch : goal.invariant-add_branches-loop-branch
invariant-add_branches-loop-branch l =
    AreDone l.branches l.branch-index (keys_of l.keys) (parts_of l.fn.anchors.items) (parts_of l.anchors.items)
