use Rattle.std.proofs.Common.{sym, subst, ap, ◌∙◌, arith, slice_index_or}
use Rattle.name_rows.specs.Rows.{AreSorted}
use Rattle.name_rows.specs.Place.{IsHere, IsBefore}
use Rattle.name_rows.proofs.RowLemmas.{named_before}
use Rattle.archive_keep.specs.Archive.{Archive, with_days, expired_at, KeepsUntil}
use Rattle.archive_keep.specs.Archives.{name_of, changed_named, expired_in}
use Rattle.archive_keep.proofs.RowLemmas.{place_within, sorted_set, set_changed, changed_none, none_named, here_is, at_set}
use Rattle.archive_keep.proofs.PurgeLemmas.{until_set, expired_here}
use Rattle.archive_keep.proofs.archives.Archives.keep_for.Goals as goal

pub invariant_of-self : goal.invariant_of-self
invariant_of-self c =
    let rows = c.self.inside.rows.items in
    let at = c.in-Ok.at in
    let new = c.keep_for-gone.new.self in
    let here = subst (λ rs. IsHere name_of c.args.name.now rs at) c.deref.ensures.value c.in-Ok.ensures in
    let within = place_within c.args.name.now rows at here in
    let same = c.archive_at.ensures ∙ ap (λ rs. slice_index_or rs at c.archive_at.result.now) c.deref-in-Ok.ensures.value
    ∙ at_set rows at new c.archive_at.result.now within in (
      sorted_set rows at c.index_mut.result.now new c.self.invariant.0 within c.index_mut.ensures.value
          (ap (λ (a : Archive). a.name) c.keep_for-gone.ensures.left),
      c.self.invariant.1,
      until_set rows at c.self.inside.next_expiry c.expiry.result c.min-self-inside.result new c.self.invariant.2
          (subst (KeepsUntil c.expiry.result) same c.expiry.ensures) (omega (arith, c.min-self-inside.ensures)) (omega (arith, c.min-self-inside.ensures)),
    )

pub returns-in-Ok-clause-left : goal.returns-in-Ok-clause-left
returns-in-Ok-clause-left c =
    let rows = c.self.inside.rows.items in
    let here = subst (λ rs. IsHere name_of c.args.name.now rs c.in-Ok.at) c.deref.ensures.value c.in-Ok.ensures in
    set_changed c.args.name.now (with_days c.args.days c.args.moment) rows c.in-Ok.at c.index_mut.result.now c.keep_for-gone.new.self here
    c.index_mut.ensures.value c.keep_for-gone.ensures.left
    ∙ ap (changed_named c.args.name.now (with_days c.args.days c.args.moment)) c.self.view_is

pub returns-in-Ok-clause-gone : goal.returns-in-Ok-clause-gone
returns-in-Ok-clause-gone c =
    let rows = c.self.inside.rows.items in
    let here = subst (λ rs. IsHere name_of c.args.name.now rs c.in-Ok.at) c.deref.ensures.value c.in-Ok.ensures in
    ap (expired_in c.args.name.now c.args.moment) (sym c.self.view_is) ∙ expired_here c.args.name.now c.args.moment rows c.in-Ok.at here
    ∙ sym (ap (expired_at c.args.moment) (here_is c.args.name.now rows c.in-Ok.at c.index_mut.result.now here c.index_mut.ensures.value))
    ∙ sym c.keep_for-gone.ensures.gone

pub returns-in-Err-clause-left : goal.returns-in-Err-clause-left
returns-in-Err-clause-left c =
    let before = subst (λ rs. IsBefore name_of c.args.name.now rs c.in-Err.field-0) (c.deref.ensures.value ∙ c.self.view_is) c.in-Err.ensures in
    let none = none_named c.args.name.now c.args.self.now c.in-Err.field-0 (subst (AreSorted name_of) c.self.view_is c.self.invariant.0) before in
    sym (changed_none c.args.name.now (with_days c.args.days c.args.moment) c.args.self.now none)

pub returns-in-Err-clause-gone : goal.returns-in-Err-clause-gone
returns-in-Err-clause-gone c =
    let before = subst (λ rs. IsBefore name_of c.args.name.now rs c.in-Err.field-0) (c.deref.ensures.value ∙ c.self.view_is) c.in-Err.ensures in
    named_before name_of c.args.name.now c.args.self.now c.in-Err.field-0 (subst (AreSorted name_of) c.self.view_is c.self.invariant.0) before
