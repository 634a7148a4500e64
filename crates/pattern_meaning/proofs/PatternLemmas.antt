-- A pattern as contracts see it, by its fields and branches: `pattern_is`.
use Rattle.std.proofs.Common.{◌≡◌, map, ap, sym, ◌∙◌}
use Rattle.pattern_meaning.specs.Pattern.{Pattern, pattern, Field, tests, below, branches_of}
use Rattle.pattern_meaning.specs.PatternView.{test_of, field_of, field_step, pattern_step, pattern_of, fields_view}
use Rattle.pattern_meaning.specs.declared.pattern.Field.{fold-roll-Field}
use Rattle.pattern_meaning.specs.declared.pattern.Field.TheVariants.{Tests, Below, rolls-Tests, rolls-Below}
use Rattle.pattern_meaning.specs.declared.pattern.Pattern.{Pattern as CodePattern, out-Pattern, roll-Pattern, fold_out-Pattern, fold-roll-Pattern}

pub pattern_is : (p : CodePattern)
    → pattern_of p ≡ pattern (fields_view (out-Pattern p).fields.items) (branches_of (map pattern_of (out-Pattern p).branches.items))
pattern_is p = fold_out-Pattern Field Pattern field_step pattern_step p

-- the same of a pattern that code has made of its parts
pub made_is : (x : _) → pattern_of (roll-Pattern x) ≡ pattern (fields_view x.fields.items) (branches_of (map pattern_of x.branches.items))
made_is x = fold-roll-Pattern Field Pattern field_step pattern_step x

pub field_tests : (v : _) → field_of (Tests v) ≡ tests (map test_of v.items)
field_tests v = ap field_of (sym (rolls-Tests v)) ∙ fold-roll-Field Field Pattern field_step pattern_step _

pub field_below : (p : CodePattern) → field_of (Below p) ≡ below (pattern_of p)
field_below p = ap field_of (sym (rolls-Below p)) ∙ fold-roll-Field Field Pattern field_step pattern_step _
