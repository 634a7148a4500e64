use Rattle.std.proofs.Common.{Some, sym, subst, ap, ◌∙◌, ◌++◌, ◌+◌, take, drop, arith}
use Rattle.std.specs.Prelude.{All}
use Rattle.name_rows.specs.Rows.{AreSorted, named}
use Rattle.name_rows.specs.Place.{IsHere, IsBefore}
use Rattle.name_rows.proofs.RowLemmas.{without_before, named_here, named_before}
use Rattle.archive_keep.specs.Archive.{KeepsUntil}
use Rattle.archive_keep.specs.Archives.{name_of}
use Rattle.archive_keep.proofs.RowLemmas.{here_is, removed_here, sorted_removed, All_without}
use Rattle.archive_keep.proofs.archives.Archives.remove.Goals as goal

pub invariant_of-self : goal.invariant_of-self
invariant_of-self c =
    let rows = c.self.inside.rows.items in
    let here = subst (λ rs. IsHere name_of c.args.name.now rs c.in-Ok.at) c.deref.ensures.value c.in-Ok.ensures in
    let left = removed_here c.args.name.now rows c.remove.new.self.items c.in-Ok.at c.self.invariant.0 here c.remove.ensures.by_index.2 in (
      sorted_removed c.args.name.now rows c.remove.new.self.items c.self.invariant.0 left,
      omega (arith, c.remove.ensures.capacity, c.self.invariant.1),
      subst (All (KeepsUntil c.self.inside.next_expiry)) (sym left) (All_without (KeepsUntil c.self.inside.next_expiry) c.args.name.now rows c.self.invariant.2),
    )

pub returns-in-Ok-clause-left : goal.returns-in-Ok-clause-left
returns-in-Ok-clause-left c =
    let here = subst (λ rs. IsHere name_of c.args.name.now rs c.in-Ok.at) (c.deref.ensures.value ∙ c.self.view_is) c.in-Ok.ensures in
    removed_here c.args.name.now c.args.self.now c.remove.new.self.items c.in-Ok.at (subst (AreSorted name_of) c.self.view_is c.self.invariant.0) here
    (c.remove.ensures.by_index.2 ∙ ap (λ rs. take c.in-Ok.at rs ++ drop (c.in-Ok.at + 1) rs) c.self.view_is)

pub returns-in-Err-clause-left : goal.returns-in-Err-clause-left
returns-in-Err-clause-left c =
    let before = subst (λ rs. IsBefore name_of c.args.name.now rs c.in-Err.field-0) (c.deref.ensures.value ∙ c.self.view_is) c.in-Err.ensures in
    sym (without_before name_of c.args.name.now c.args.self.now c.in-Err.field-0 (subst (AreSorted name_of) c.self.view_is c.self.invariant.0) before)

pub returns-in-Ok-clause-removed : goal.returns-in-Ok-clause-removed
returns-in-Ok-clause-removed c =
    let rows = c.self.inside.rows.items in
    let here = subst (λ rs. IsHere name_of c.args.name.now rs c.in-Ok.at) c.deref.ensures.value c.in-Ok.ensures in
    ap (named name_of c.args.name.now) (sym c.self.view_is) ∙ named_here name_of c.args.name.now rows c.in-Ok.at here
    ∙ ap (λ m. Some m) (sym (here_is c.args.name.now rows c.in-Ok.at c.remove.result here c.remove.ensures.value))

pub returns-in-Err-clause-removed : goal.returns-in-Err-clause-removed
returns-in-Err-clause-removed c =
    let before = subst (λ rs. IsBefore name_of c.args.name.now rs c.in-Err.field-0) (c.deref.ensures.value ∙ c.self.view_is) c.in-Err.ensures in
    named_before name_of c.args.name.now c.args.self.now c.in-Err.field-0 (subst (AreSorted name_of) c.self.view_is c.self.invariant.0) before
