use Rattle.std.proofs.Common.{rules, of_calls}
use Rattle.std.specs.Arc.{arc_value}
use Rattle.std.specs.Cmp.Lexicographic.{slice_cmp}
use Rattle.std.specs.Ordering.{nat_cmp}
use Rattle.std.proofs.lemmas.Fn.{always_returns_same}
use Rattle.name_rows.proofs.RowLemmas.{sorted_unmap, here_map, before_map}
use Rattle.name_rows.proofs.SearchLemmas.{here_found, before_found, non_decreasing}
use Rattle.name_rows.proofs.place.place_of.Goals as goal

pub returns-in-Ok : goal.returns-in-Ok
returns-in-Ok g c =
    let name_of = g.R.Row.name_of in
    let name = c.args.name.now in
    let sorted = sorted_unmap name_of arc_value c.args.rows.now c.requires in
    let found = c.in-Ok.ensures.position (λ row. slice_cmp nat_cmp (name_of (arc_value row)) name)
    (always_returns_same _ _ _ (λ a r h called. search (rules, of_calls))) in
    here_map arc_value name_of name c.args.rows.now c.in-Ok.at
    (here_found (λ row. name_of (arc_value row)) name c.args.rows.now c.in-Ok.at sorted c.in-Ok.ensures.bound found)

pub returns-in-Err : goal.returns-in-Err
returns-in-Err g c =
    let name_of = g.R.Row.name_of in
    let name = c.args.name.now in
    let sorted = sorted_unmap name_of arc_value c.args.rows.now c.requires in
    let found = c.in-Err.ensures.position (λ row. slice_cmp nat_cmp (name_of (arc_value row)) name)
    (always_returns_same _ _ _ (λ a r h called. search (rules, of_calls)))
    (non_decreasing (λ row. name_of (arc_value row)) name c.args.rows.now sorted) in
    before_map arc_value name_of name c.args.rows.now c.in-Err.at
    (before_found (λ row. name_of (arc_value row)) name c.args.rows.now c.in-Err.at c.in-Err.ensures.bound found.0 found.1)
