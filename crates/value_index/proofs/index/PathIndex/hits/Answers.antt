use Rattle.std.proofs.Common.{◌<◌, length, List, get_or, sym, subst}
use Rattle.std.specs.Prelude.{All}
use Rattle.json_text.specs.View.{tree_of}
use Rattle.value_index.specs.declared.row.Row.{Row}
use Rattle.value_index.specs.Adds.{Adds, IsReached}
use Rattle.value_index.proofs.HitLemmas.{adds_all, marks_for}
use Rattle.value_index.proofs.KeyLemmas.{reached}
use Rattle.value_index.proofs.index.PathIndex.hits.Goals as goal

pub decide_scalar-requires-clause-marks : goal.decide_scalar-requires-clause-marks
decide_scalar-requires-clause-marks c =
    subst (λ (rows : List Row). All (λ (row : Row). row.mark < length c.args.marks.now) rows) (sym c.deref.ensures.value)
    (marks_for c.args.self.now.rows.items (length c.args.marks.now) c.requires.marks)

pub returns : goal.returns
returns c =
    let index = c.args.self.now in
    let rows = index.rows.items in
    let leaf = tree_of c.args.scalar.now in
    let found = IsReached index.lengths leaf in
    adds_all found rows leaf c.args.marks.now c.decide_scalar.new.marks
    (subst (λ (l : List Row). Adds found l leaf c.args.marks.now c.decide_scalar.new.marks) c.deref.ensures.value c.decide_scalar.ensures)
    (λ k d within met. reached index.lengths leaf (get_or rows k d) (index.signed k d within) (index.listed k d within) met)
