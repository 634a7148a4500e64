use Rattle.std.proofs.Common.{◌≡◌, ◌<◌, ◌∙◌, ap, sym, subst, length, arith}
use Rattle.std.proofs.lemmas.List.Elements.{All-more}
use Rattle.name_rows.specs.Place.{IsSmaller}
use Rattle.std.specs.Cmp.Lexicographic.{slice_cmp}
use Rattle.std.specs.Ordering.{nat_cmp}
use Rattle.std.specs.declared.cmp.Ordering.TheVariants.{Less, Equal}
use Rattle.rule_table.proofs.RowLemmas.{before_at, here_at}
use Rattle.rule_table.proofs.targets.place_of.Goals as goal

pub returns-in-Less : goal.returns-in-Less
returns-in-Less g c =
    let less : slice_cmp nat_cmp c.args.id.now (g.R.Row.name_of c.index-targets-at.result) ≡ Less =
    ap (slice_cmp nat_cmp c.args.id.now) (sym c.row_name.ensures) ∙ sym c.in-Less.ensures in
    let within : c.loop-at.at < length c.args.targets.now = omega arith in
    before_at g.R.Row.name_of c.args.id.now c.args.targets.now c.loop-at.at c.index-targets-at.result within c.index-targets-at.is
    c.loop-at.invariant less

pub returns-in-Equal : goal.returns-in-Equal
returns-in-Equal g c =
    let equal : slice_cmp nat_cmp c.args.id.now (g.R.Row.name_of c.index-targets-at.result) ≡ Equal =
    ap (slice_cmp nat_cmp c.args.id.now) (sym c.row_name.ensures) ∙ sym c.in-Equal.ensures in
    let within : c.loop-at.at < length c.args.targets.now = omega arith in
    here_at g.R.Row.name_of c.args.id.now c.args.targets.now c.loop-at.at c.index-targets-at.result within c.index-targets-at.is
    c.loop-at.invariant equal

pub loop-at-preserved : goal.loop-at-preserved
loop-at-preserved g c =
    let greater : IsSmaller g.R.Row.name_of c.args.id.now c.index-targets-at.result =
    ap (slice_cmp nat_cmp c.args.id.now) (sym c.row_name.ensures) ∙ sym c.in-Greater.ensures in
    All-more (IsSmaller g.R.Row.name_of c.args.id.now) c.args.targets.now c.loop-at.at c.index-targets-at.result c.loop-at-test.true c.loop-at.invariant
    (subst (IsSmaller g.R.Row.name_of c.args.id.now) c.index-targets-at.is greater)
