use Rattle.std.proofs.Common.{◌≡◌, ℕ, List, ◌++◌, length}
use Rattle.std.specs.Option.{option_copied}
use Rattle.json_text.specs.Tree.{Tree}
use Rattle.json_text.specs.Compact.{compact_text}
use Rattle.event_time.specs.Time.{IsIso}
use Rattle.delivery_duties.specs.declared.duty.NewDuty.{NewDuty}
use Rattle.router_requests.specs.Duties.{any_needs_tree, AreDuties, HasTree, IsTreeOf}
use Rattle.router_requests.proofs.duties.duties_of.Given as goal

-- the tree is there for the targets that are left, and what completes their duties completes those of all
abbrev pub invariant-loop-seen : goal.invariant-loop-seen
invariant-loop-seen l = record {
  tree : HasTree (any_needs_tree l.targets.items) (option_copied l.tree);
  all : (event : Tree) (time : List ℕ) → l.text ≡ compact_text event → IsTreeOf event (option_copied l.tree) → IsIso l.moment time → (rest : List NewDuty)
      → AreDuties event time l.targets.items rest → AreDuties event time l.fn.targets.items (l.duties.items ++ rest);
}

abbrev pub decreases-loop-seen : goal.decreases-loop-seen
decreases-loop-seen l = length l.targets.items
