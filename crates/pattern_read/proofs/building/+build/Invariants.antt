use Rattle.std.proofs.Common.{◌≡◌, ◌≤◌, ◌+◌, ◌*◌, ◌++◌, List, map}
use Rattle.std.specs.Vec.Iter.{into_iter_items}
use Rattle.json_text.specs.Tree.{members_of, items_of}
use Rattle.json_text.specs.View.{tree_of, trees_of, pairs_of}
use Rattle.pattern_meaning.specs.Pattern.{Pattern}
use Rattle.pattern_meaning.specs.PatternView.{field_of, pattern_of}
use Rattle.pattern_meaning.specs.Meets.{size_of, items_size, members_size}
use Rattle.pattern_read.specs.Value.{IsPatternOf}
use Rattle.pattern_read.specs.Check.{pattern_checks}
use Rattle.pattern_read.proofs.LoopLemmas.{Behind, MembersBehind}
use Rattle.pattern_read.proofs.building.+build.Given as goal

-- the values that are left to read, and at one value the calls that are still to come
abbrev pub decreases-read_value : goal.decreases-read_value
decreases-read_value l = 4 * size_of (tree_of l.json)

abbrev pub decreases-read_members : goal.decreases-read_members
decreases-read_members l = 4 * members_size (members_of (pairs_of l.members.items)) + 3

abbrev pub decreases-read_named : goal.decreases-read_named
decreases-read_named l = 4 * size_of (tree_of l.value) + 2

abbrev pub decreases-read_field : goal.decreases-read_field
decreases-read_field l = 4 * size_of (tree_of l.value) + 1

abbrev pub decreases-read_or : goal.decreases-read_or
decreases-read_or l = 4 * size_of (tree_of l.value) + 1

abbrev pub decreases-read_branches : goal.decreases-read_branches
decreases-read_branches l = 4 * items_size (items_of (trees_of l.items.items)) + 1

abbrev pub invariant-read_members-loop-key : goal.invariant-read_members-loop-key
invariant-read_members-loop-key l =
    (goal.iterator-read_members-loop-key).can_next l.key-iterator ×
    (goal.iterator-read_members-loop-key).is_finite l.key-iterator ×
    MembersBehind l.root (members_of (pairs_of l.fn.members.items)) (members_of (pairs_of (into_iter_items l.key-iterator)))
    (map (λ f. (f.0, field_of f.1)) l.fields.items) (map pattern_of l.branches.items) ×
    (members_size (members_of (pairs_of (into_iter_items l.key-iterator))) ≤ members_size (members_of (pairs_of l.fn.members.items)))

abbrev pub invariant-read_branches-loop-item : goal.invariant-read_branches-loop-item
invariant-read_branches-loop-item l =
    (goal.iterator-read_branches-loop-item).can_next l.item-iterator ×
    (goal.iterator-read_branches-loop-item).is_finite l.item-iterator ×
    ((new : List Pattern) × (map pattern_of l.branches.items ≡ map pattern_of l.fn.before.items ++ new)
    × Behind (IsPatternOf l.root) (pattern_checks l.root) (trees_of l.fn.items.items) (trees_of (into_iter_items l.item-iterator)) new) ×
    (items_size (items_of (trees_of (into_iter_items l.item-iterator))) ≤ items_size (items_of (trees_of l.fn.items.items)))
