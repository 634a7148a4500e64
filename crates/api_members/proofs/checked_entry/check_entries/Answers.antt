use Rattle.std.proofs.Common.{◌+◌, ◌∷◌, [], drop, map, sym, refl, ap, ◌∙◌, subst, append-nil}
use Rattle.std.proofs.lemmas.List.{at_drop_more, at_drop_all}
use Rattle.event_shape.specs.Entry.{entry_of}
use Rattle.api_members.specs.CheckedEntry.{AreChecked}
use Rattle.api_members.proofs.CheckedLemmas.{Completes, checked_more}
use Rattle.api_members.proofs.checked_entry.check_entries.Goals as goal

pub loop-entry-preserved : goal.loop-entry-preserved
loop-entry-preserved c =
    let xs = c.args.entries.now in
    let i = c.loop-entry.entry-index in
    let left = at_drop_more (λ l. map entry_of l) xs i c.entry-item.result c.loop-entry-test.true
    ∙ ap (λ y. entry_of y ∷ map entry_of (drop (i + 1) xs)) (sym c.entry-item.is) in
    let before = subst (λ l. Completes c.args.reading c.args.caller.now (map entry_of xs) l c.loop-entry.all.items) left c.loop-entry.invariant in
    let after = checked_more c.args.reading c.args.caller.now _ _ _ _ c.in_ok-one.one before c.in_ok-one.ensures in
    rw c.in_ok-push.ensures.items after

pub returns : goal.returns
returns c =
    let xs = c.args.entries.now in
    let left = at_drop_all (λ l. map entry_of l) xs c.loop-entry.entry-index c.loop-entry-test.false in
    let done = subst (λ l. Completes c.args.reading c.args.caller.now (map entry_of xs) l c.loop-entry.all.items) left c.loop-entry.invariant in
    subst (AreChecked c.args.reading c.args.caller.now (map entry_of xs)) (append-nil c.loop-entry.all.items) (done [] refl)
