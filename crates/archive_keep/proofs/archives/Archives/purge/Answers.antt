use Rattle.std.proofs.Common.{◌≡◌, sym, subst, ap, ◌∙◌, refl, arith}
use Rattle.std.specs.Prelude.{All}
use Rattle.name_rows.specs.Rows.{AreSorted}
use Rattle.archive_keep.specs.Archive.{KeepsUntil, purged}
use Rattle.archive_keep.specs.Archives.{name_of, all_purged, all_expired}
use Rattle.archive_keep.proofs.RowLemmas.{sorted_names, names_mapped}
use Rattle.archive_keep.proofs.PurgeLemmas.{none_due}
use Rattle.archive_keep.proofs.archives.Archives.purge.Goals as goal

pub invariant_of-self : goal.invariant_of-self
invariant_of-self c =
    let rows = c.self.inside.rows.items in
    let made = c.purge_all-gone.ensures.left in (
      subst (AreSorted name_of) (sym made)
          (sorted_names rows (all_purged c.args.moment rows) (names_mapped (purged c.args.moment) (λ a. refl) rows) c.self.invariant.0),
      omega (arith, c.purge_all-gone.ensures.capacity, c.self.invariant.1),
      subst (All (KeepsUntil c.next_expiry-self-inside.result)) c.deref.ensures.value c.next_expiry-self-inside.ensures,
    )

pub returns-then-moment-self-clause-left : goal.returns-then-moment-self-clause-left
returns-then-moment-self-clause-left c =
    let none = none_due c.self.inside.next_expiry c.args.moment c.self.inside.rows.items c.if-moment-self.true c.self.invariant.2 in
    sym (subst (λ rs. all_purged c.args.moment rs ≡ rs) c.self.view_is none.0)

pub returns-then-moment-self-clause-gone : goal.returns-then-moment-self-clause-gone
returns-then-moment-self-clause-gone c =
    let none = none_due c.self.inside.next_expiry c.args.moment c.self.inside.rows.items c.if-moment-self.true c.self.invariant.2 in
    c.new.ensures ∙ sym none.1 ∙ ap (all_expired c.args.moment) c.self.view_is
