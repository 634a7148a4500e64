use Rattle.std.proofs.Common.{◌≡◌, ◌∷◌, [], length, sym, ap, subst, arith, length-append}
use Rattle.std.specs.Prelude.{All}
use Rattle.std.proofs.lemmas.List.Elements.{All-push}
use Rattle.archive_keep.specs.declared.event_ref.KeptEvent.{KeptEvent}
use Rattle.router_core.proofs.ready.copies.Goals as goal

pub loop-preserved : goal.loop-preserved
loop-preserved c =
    let same : KeptEvent → Type 0 = λ k. k ≡ c.args.event.now in
    let grown = c.in_ok-push_back.ensures.items in (
      subst (All same) (sym grown) (All-push same c.loop.list c.in_ok-share.field-0 c.loop.invariant.0 c.in_ok-share.ensures),
      omega (arith, ap (length {A = KeptEvent}) grown, length-append c.loop.list (c.in_ok-share.field-0 ∷ []), c.loop.invariant.1),
    )
