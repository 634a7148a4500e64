use Rattle.std.proofs.Common.{rules, subst, w64, to_z, of_z, FitsSigned, ◌≡◌}
use Rattle.std.proofs.lemmas.Int.{to_z-of_z}
use Rattle.json_text.specs.Tree.{number}
use Rattle.numeric_keys.specs.Ranges.{AddsHits}
use Rattle.value_index.specs.Adds.{IsNumeric}
use Rattle.value_index.proofs.HitLemmas.{adds_nothing}
use Rattle.value_index.proofs.NumberLemmas.{ranges_marked, numbers_added, no_number}
use Rattle.value_index.proofs.hits.decide_number.Goals as goal

pub hits-requires : goal.hits-requires
hits-requires c = ranges_marked c.args.rows.now c.args.ranges.now _ c.requires.ranges c.requires.marks

pub returns-in-Some : goal.returns-in-Some
returns-in-Some c =
    let m = c.in-Some.number in
    let fits : FitsSigned w64 m = search rules in
    let same : to_z w64 (of_z w64 m) ≡ m = to_z-of_z w64 m fits in
    numbers_added c.args.rows.now c.args.ranges.now c.args.spelling.now c.millionths.result c.millionths.ensures m c.args.marks.now c.hits.new.marks
    c.in-Some.is c.requires.ranges (subst (λ v. AddsHits c.args.ranges.now v c.args.marks.now c.hits.new.marks) same c.hits.ensures)

pub returns-in-None : goal.returns-in-None
returns-in-None c =
    adds_nothing IsNumeric c.args.rows.now (number c.args.spelling.now) c.args.marks.now
    (no_number c.args.rows.now c.args.ranges.now c.args.spelling.now c.millionths.result c.millionths.ensures c.in-None.is)
