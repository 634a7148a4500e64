use Rattle.std.proofs.Common.{◌≤◌, take, sym, subst, arith}
use Rattle.std.specs.Prelude.{All}
use Rattle.std.proofs.lemmas.List.Elements.{All-push, All-weaker}
use Rattle.archive_keep.specs.declared.event_ref.KeptEvent.{KeptEvent}
use Rattle.archive_keep.proofs.RowLemmas.{take_more}
use Rattle.replay_run.specs.Selection.{AreByTime}
use Rattle.replay_run.proofs.SelectionLemmas.{rises_push}
use Rattle.replay_run.proofs.selection.are_by_time.Goals as goal

pub loop-event-preserved : goal.loop-event-preserved
loop-event-preserved c =
    let events = c.args.events.now in
    let i = c.loop-event.event-index in
    let x = c.event-item.result in
    let Before : KeptEvent → Type 0 = λ e. e.time ≤ x.time in
    let So_far : KeptEvent → Type 0 = λ e. e.time ≤ c.loop-event.last in
    let To : KeptEvent → Type 0 = λ e. e.time ≤ c.time-time.result in
    let next = take_more events i x c.loop-event-test.true c.event-item.is in
    let before = All-weaker So_far Before (λ e le. omega (arith, le, c.if-time-last.false, c.time-time.ensures)) (take i events) c.loop-event.invariant.1 in
    let to = All-weaker So_far To (λ e le. omega (arith, le, c.if-time-last.false)) (take i events) c.loop-event.invariant.1 in
    let here : x.time ≤ c.time-time.result = omega (arith, c.time-time.ensures) in (
      subst AreByTime (sym next) (rises_push (take i events) x c.loop-event.invariant.0 before),
      subst (All To) (sym next) (All-push To (take i events) x to here),
    )
