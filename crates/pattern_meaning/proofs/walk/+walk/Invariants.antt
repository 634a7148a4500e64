use Rattle.std.proofs.Common.{◌↔◌, map, drop, option_copied, ◌+◌, ◌*◌}
use Rattle.json_text.specs.Tree.{list, items_of}
use Rattle.json_text.specs.View.{tree_of, trees_of}
use Rattle.pattern_meaning.specs.Pattern.{branches_of}
use Rattle.pattern_meaning.specs.PatternView.{pattern_of, fields_view}
use Rattle.pattern_meaning.specs.Frames.{path_of, wants_of, value_of, known_of}
use Rattle.pattern_meaning.specs.Meets.{OnSome, WithKeyMet, known_in, size_of, wants_weight, fields_weight, branches_weight}
use Rattle.pattern_meaning.proofs.walk.+walk.Given as goal

-- the values and wishes that are left to look at
abbrev pub decreases-meets : goal.decreases-meets
decreases-meets l = size_of (tree_of l.value.now) + wants_weight (wants_of l.wanted.now) + 2

abbrev pub decreases-chosen : goal.decreases-chosen
decreases-chosen l =
    size_of (value_of (option_copied l.site.value)) + wants_weight (wants_of l.wanted.now) + 4 * wants_weight (wants_of l.found.now) + 1

abbrev pub decreases-opened : goal.decreases-opened
decreases-opened l =
    size_of (value_of (option_copied l.site.value))
    + 5 * (fields_weight (fields_view l.fields.now) + branches_weight (branches_of (map pattern_of l.branches.now)))
    + wants_weight (wants_of l.wanted.now) + 4 * wants_weight (wants_of l.found.now) + 3

abbrev pub decreases-some_opened : goal.decreases-some_opened
decreases-some_opened l =
    size_of (value_of (option_copied l.site.value)) + 5 * branches_weight (branches_of (map pattern_of l.branches.now))
    + wants_weight (wants_of l.wanted.now) + 4 * wants_weight (wants_of l.found.now) + 2

abbrev pub decreases-members_meet : goal.decreases-members_meet
decreases-members_meet l =
    size_of (value_of (option_copied l.site.value)) + wants_weight (wants_of l.found.now) + 3 * wants_weight (wants_of l.rest.now)

abbrev pub decreases-member_meets : goal.decreases-member_meets
decreases-member_meets l = size_of (value_of (option_copied l.site.value)) + wants_weight (wants_of l.found.now) + 2

-- what is left answers what all answer
abbrev pub invariant-meets-loop-item : goal.invariant-meets-loop-item
invariant-meets-loop-item l =
    OnSome (list (items_of (trees_of (drop l.item-index l.item-items))))
    (WithKeyMet (known_in (known_of l.known)) (path_of l.at) l.key (wants_of l.wanted))
    ↔ OnSome (list (items_of (trees_of l.item-items)))
    (WithKeyMet (known_in (known_of l.known)) (path_of l.at) l.key (wants_of l.wanted))
