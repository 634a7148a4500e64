use Rattle.std.proofs.Common.{◌↔◌, ◌≤◌, ◌+◌, ◌*◌, ℕ, Bool, List, drop, length, option_copied}
use Rattle.json_text.specs.Tree.{list, items_of}
use Rattle.json_text.specs.View.{trees_of}
use Rattle.pattern_meaning.specs.PatternView.{field_of, pattern_of, fields_view}
use Rattle.pattern_meaning.specs.Frames.{value_of}
use Rattle.pattern_meaning.specs.Meets.{OnSome, FieldsMet, FieldMet, size_of, items_size, pattern_weight, fields_weight, field_weight}
use Rattle.pattern_meaning.proofs.quick.+quick.Given as goal

-- twice the values that are left, and what is asked of them
abbrev pub decreases-pattern_meets : goal.decreases-pattern_meets
decreases-pattern_meets l = 2 * size_of (value_of (option_copied l.value)) + pattern_weight (pattern_of l.pattern.now)

abbrev pub decreases-fields_meet : goal.decreases-fields_meet
decreases-fields_meet l = 2 * size_of (value_of (option_copied l.value)) + fields_weight (fields_view l.fields.now)

abbrev pub decreases-field_meets : goal.decreases-field_meets
decreases-field_meets l = 2 * size_of (value_of (option_copied l.value)) + field_weight (field_of l.field.now)

abbrev pub decreases-item_meets : goal.decreases-item_meets
decreases-item_meets l = 2 * items_size (items_of (trees_of l.items.now)) + 1 + field_weight (field_of l.field.now)

abbrev pub decreases-fields_meet-loop-left : goal.decreases-fields_meet-loop-left
decreases-fields_meet-loop-left l = length l.left

-- what is left answers what all answer
abbrev pub invariant-fields_meet-loop-left : goal.invariant-fields_meet-loop-left
invariant-fields_meet-loop-left l =
    ((absent : List (List ℕ) → Bool) (at : List (List ℕ)) →
    OnSome (value_of (option_copied l.value)) (FieldsMet absent at (fields_view l.left))
    ↔ OnSome (value_of (option_copied l.value)) (FieldsMet absent at (fields_view l.fields)))
    × (fields_weight (fields_view l.left) ≤ fields_weight (fields_view l.fields))

abbrev pub invariant-item_meets-loop-item : goal.invariant-item_meets-loop-item
invariant-item_meets-loop-item l = (absent : List (List ℕ) → Bool) (at : List (List ℕ)) →
    OnSome (list (items_of (trees_of (drop l.item-index l.items)))) (FieldMet absent at (field_of l.field))
    ↔ OnSome (list (items_of (trees_of l.items))) (FieldMet absent at (field_of l.field))
