use Rattle.std.proofs.Common.{Some, sym, subst, ap, ◌∙◌, arith, slice_index_or}
use Rattle.name_rows.specs.Rows.{AreSorted, named}
use Rattle.name_rows.specs.Place.{IsHere, IsBefore}
use Rattle.name_rows.proofs.RowLemmas.{named_here}
use Rattle.archive_keep.specs.Archive.{Archive, with_event, KeepsUntil}
use Rattle.archive_keep.specs.Archives.{name_of, changed_named}
use Rattle.archive_keep.proofs.KeptLemmas.{single}
use Rattle.archive_keep.proofs.RowLemmas.{here_is, place_within, sorted_set, set_changed, changed_none, none_named, at_set}
use Rattle.archive_keep.proofs.PurgeLemmas.{until_set}
use Rattle.archive_keep.proofs.archives.Archives.keep.Goals as goal

pub keep-requires-clause-later : goal.keep-requires-clause-later
keep-requires-clause-later c = λ e is.
    let rows = c.self.inside.rows.items in
    let here = subst (λ rs. IsHere name_of c.args.name.now rs c.in-Ok.at) c.deref.ensures.value c.in-Ok.ensures in
    let archive = c.index_mut.result.now in
    let named_so = named_here name_of c.args.name.now rows c.in-Ok.at here
    ∙ ap (λ (a : Archive). Some a) (sym (here_is c.args.name.now rows c.in-Ok.at archive here c.index_mut.ensures.value)) in
    c.requires.later e archive is (ap (named name_of c.args.name.now) (sym c.self.view_is) ∙ named_so)

pub invariant_of-self : goal.invariant_of-self
invariant_of-self c =
    let rows = c.self.inside.rows.items in
    let at = c.in-Ok.at in
    let new = c.keep.new.self in
    let here = subst (λ rs. IsHere name_of c.args.name.now rs at) c.deref.ensures.value c.in-Ok.ensures in
    let within = place_within c.args.name.now rows at here in
    let (e, is) = single c.args.event c.requires.one in
    let same = c.archive_at.ensures ∙ ap (λ rs. slice_index_or rs at c.archive_at.result.now) c.deref-in-Ok.ensures.value
    ∙ at_set rows at new c.archive_at.result.now within in (
      sorted_set rows at c.index_mut.result.now new c.self.invariant.0 within c.index_mut.ensures.value (ap (λ (a : Archive). a.name) (c.keep.ensures e is)),
      c.self.invariant.1,
      until_set rows at c.self.inside.next_expiry c.expiry.result c.min-self-inside.result new c.self.invariant.2
          (subst (KeepsUntil c.expiry.result) same c.expiry.ensures) (omega (arith, c.min-self-inside.ensures)) (omega (arith, c.min-self-inside.ensures)),
    )

pub returns-in-Ok : goal.returns-in-Ok
returns-in-Ok c = λ e is.
    let rows = c.self.inside.rows.items in
    let here = subst (λ rs. IsHere name_of c.args.name.now rs c.in-Ok.at) c.deref.ensures.value c.in-Ok.ensures in
    set_changed c.args.name.now (with_event e) rows c.in-Ok.at c.index_mut.result.now c.keep.new.self here c.index_mut.ensures.value (c.keep.ensures e is)
    ∙ ap (changed_named c.args.name.now (with_event e)) c.self.view_is

pub returns-in-Err : goal.returns-in-Err
returns-in-Err c = λ e is.
    let before = subst (λ rs. IsBefore name_of c.args.name.now rs c.in-Err.field-0) (c.deref.ensures.value ∙ c.self.view_is) c.in-Err.ensures in
    let none = none_named c.args.name.now c.args.self.now c.in-Err.field-0 (subst (AreSorted name_of) c.self.view_is c.self.invariant.0) before in
    sym (changed_none c.args.name.now (with_event e) c.args.self.now none)
