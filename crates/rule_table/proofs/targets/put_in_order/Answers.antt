use Rattle.std.proofs.Common.{sym, subst, ◌∙◌}
use Rattle.name_rows.specs.Place.{IsHere, IsBefore}
use Rattle.rule_table.proofs.RowLemmas.{put_here, put_before}
use Rattle.rule_table.proofs.targets.put_in_order.Goals as goal

pub returns-in-Here-clause-put : goal.returns-in-Here-clause-put
returns-in-Here-clause-put g c =
    let name_of = g.R.Row.name_of in
    let new = c.args.new in
    let named = subst (λ name. IsHere name_of name c.as_slice.result.now c.in-Here.at) c.row_name.ensures c.in-Here.ensures in
    let here = subst (λ rows. IsHere name_of (name_of new) rows c.in-Here.at) c.as_slice.ensures.value named in
    sym (put_here name_of new c.args.targets.now.items c.in-Here.at here)

pub returns-in_ok-insert-in-Before-clause-put : goal.returns-in_ok-insert-in-Before-clause-put
returns-in_ok-insert-in-Before-clause-put g c =
    let name_of = g.R.Row.name_of in
    let new = c.args.new in
    let named = subst (λ name. IsBefore name_of name c.as_slice.result.now c.in-Before.at) c.row_name.ensures c.in-Before.ensures in
    let before = subst (λ rows. IsBefore name_of (name_of new) rows c.in-Before.at) c.as_slice.ensures.value named in
    c.in_ok-insert-in-Before.ensures.items ∙ sym (put_before name_of new c.args.targets.now.items c.in-Before.at before)
