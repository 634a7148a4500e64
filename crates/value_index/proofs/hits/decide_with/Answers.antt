use Rattle.std.proofs.Common.{◌<◌, length, List, subst, sym}
use Rattle.std.specs.Prelude.{All, ◌==◌}
use Rattle.std.proofs.lemmas.List.Elements.{All-filter}
use Rattle.json_text.specs.View.{tree_of}
use Rattle.value_index.specs.declared.row.Row.{Row}
use Rattle.value_index.specs.Adds.{Adds}
use Rattle.value_index.proofs.HitLemmas.{Every, adds_picked}
use Rattle.value_index.proofs.hits.decide_with.Goals as goal

pub decide_all-requires-clause-marks : goal.decide_all-requires-clause-marks
decide_all-requires-clause-marks c =
    let bound = λ (row : Row). row.mark < length c.args.marks.now in
    subst (λ (rows : List Row). All bound rows) (sym c.with.ensures) (All-filter (λ row. row.signature == c.args.signature) bound c.args.rows.now c.requires.marks)

pub returns : goal.returns
returns c =
    let leaf = tree_of c.args.scalar.now in
    adds_picked c.args.signature c.args.rows.now leaf c.args.marks.now c.decide_all.new.marks
    (subst (λ (rows : List Row). Adds Every rows leaf c.args.marks.now c.decide_all.new.marks) c.with.ensures c.decide_all.ensures)
