use Rattle.std.proofs.Common.{sym, subst, ap, ◌∙◌, List, arith}
use Rattle.std.specs.Prelude.{All}
use Rattle.std.specs.List.{insert}
use Rattle.std.proofs.lemmas.List.Elements.{All-nil}
use Rattle.name_rows.specs.Rows.{AreSorted}
use Rattle.name_rows.specs.Place.{IsHere, IsBefore}
use Rattle.name_rows.proofs.RowLemmas.{All_placed}
use Rattle.archive_keep.specs.declared.event_ref.KeptEvent.{KeptEvent}
use Rattle.archive_keep.specs.Archive.{KeepsUntil, IsKeptUntil}
use Rattle.archive_keep.specs.Archives.{name_of, keeping}
use Rattle.archive_keep.proofs.RowLemmas.{created_before, created_here, sorted_created}
use Rattle.archive_keep.proofs.archives.Archives.create.Goals as goal

pub invariant_of-self : goal.invariant_of-self
invariant_of-self c =
    let rows = c.self.inside.rows.items in
    let next = c.self.inside.next_expiry in
    let before = subst (λ rs. IsBefore name_of c.name.result.now rs c.in-Err.at) c.deref.ensures.value c.in-Err.ensures in
    let made = created_before c.args.archive c.name.result.now rows c.insert.new.self.items c.in-Err.at c.name.ensures before c.in-Ok-insert.ensures.items in
    let Kept : List KeptEvent → Type 0 = λ es. All (IsKeptUntil next c.args.archive.days) es in
    let nothing : KeepsUntil next c.args.archive = subst Kept (sym c.requires.empty) (All-nil (IsKeptUntil next c.args.archive.days)) in (
      subst (AreSorted name_of) (sym made) (sorted_created c.args.archive c.name.result.now rows c.in-Err.at c.name.ensures before c.self.invariant.0),
      omega (arith, c.insert.ensures.capacity, c.self.invariant.1),
      subst (All (KeepsUntil next)) (sym made)
          (All_placed (KeepsUntil next) name_of keeping c.args.archive rows nothing (λ old kept. kept) c.self.invariant.2),
    )

pub returns-in-Ok : goal.returns-in-Ok
returns-in-Ok c =
    created_here c.args.archive c.name.result.now c.args.self.now c.in-Ok.field-0 c.name.ensures
    (subst (λ rs. IsHere name_of c.name.result.now rs c.in-Ok.field-0) (c.deref.ensures.value ∙ c.self.view_is) c.in-Ok.ensures)

pub returns-in-Ok-insert : goal.returns-in-Ok-insert
returns-in-Ok-insert c =
    let before = subst (λ rs. IsBefore name_of c.name.result.now rs c.in-Err.at) (c.deref.ensures.value ∙ c.self.view_is) c.in-Err.ensures in
    created_before c.args.archive c.name.result.now c.args.self.now c.insert.new.self.items c.in-Err.at c.name.ensures before
    (c.in-Ok-insert.ensures.items ∙ ap (λ rs. insert rs c.in-Err.at c.args.archive) c.self.view_is)
