use Rattle.std.proofs.Common.{◌≡◌, Some, sym, subst, ap, ◌∙◌, slice_index_or}
use Rattle.name_rows.specs.Rows.{AreSorted}
use Rattle.name_rows.specs.Place.{IsHere, IsBefore}
use Rattle.name_rows.proofs.RowLemmas.{named_here, named_before}
use Rattle.archive_keep.specs.Archives.{name_of}
use Rattle.archive_keep.proofs.RowLemmas.{here_is}
use Rattle.archive_keep.proofs.archives.Archives.find.Goals as goal

pub returns-in-Ok : goal.returns-in-Ok
returns-in-Ok c =
    let rows = c.args.self.now in
    let here = subst (λ rs. IsHere name_of c.args.name.now rs c.in-Ok.at) (c.deref.ensures.value ∙ c.self.view_is) c.in-Ok.ensures in
    let value = subst (λ rs. c.archive_at.result.now ≡ slice_index_or rs c.in-Ok.at c.archive_at.result.now)
    (c.deref-in-Ok.ensures.value ∙ c.self.view_is) c.archive_at.ensures in
    named_here name_of c.args.name.now rows c.in-Ok.at here
    ∙ ap (λ m. Some m) (sym (here_is c.args.name.now rows c.in-Ok.at c.archive_at.result.now here value))

pub returns-in-Err : goal.returns-in-Err
returns-in-Err c =
    let before = subst (λ rs. IsBefore name_of c.args.name.now rs c.in-Err.field-0) (c.deref.ensures.value ∙ c.self.view_is) c.in-Err.ensures in
    named_before name_of c.args.name.now c.args.self.now c.in-Err.field-0 (subst (AreSorted name_of) c.self.view_is c.self.invariant.0) before
