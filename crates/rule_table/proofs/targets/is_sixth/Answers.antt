use Rattle.std.proofs.Common.{◌+◌, ℕ, List, not, length, map, sym, ap, ◌∙◌}
use Rattle.std.specs.Prelude.{nat_le}
use Rattle.std.proofs.lemmas.List.{length-map}
use Rattle.name_rows.proofs.RowLemmas.{here_map, before_map}
use Rattle.rule_table.proofs.RowLemmas.{length_here, length_before}
use Rattle.rule_table.proofs.TargetLemmas.{above, from_full}
use Rattle.rule_table.proofs.targets.is_sixth.Goals as goal

pub returns-in-Here : goal.returns-in-Here
returns-in-Here g c =
    let name_of = g.R.Row.name_of in
    let itself : List ℕ → List ℕ = λ n. n in
    let targets = c.args.targets.now in
    let here = here_map name_of itself c.args.id.now targets c.in-Here.field-0 c.in-Here.ensures in
    let e = length_here itself c.args.id.now (map name_of targets) c.in-Here.field-0 here ∙ length-map targets name_of in
    above (length targets) ∙ ap (λ n. not (nat_le n 5)) (sym e)

pub returns-in-Before : goal.returns-in-Before
returns-in-Before g c =
    let name_of = g.R.Row.name_of in
    let itself : List ℕ → List ℕ = λ n. n in
    let targets = c.args.targets.now in
    let before = before_map name_of itself c.args.id.now targets c.in-Before.field-0 c.in-Before.ensures in
    let e = length_before itself c.args.id.now (map name_of targets) c.in-Before.field-0 before ∙ ap (λ n. n + 1) (length-map targets name_of) in
    from_full (length targets) ∙ ap (λ n. not (nat_le n 5)) (sym e)
