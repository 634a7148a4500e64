use Rattle.std.proofs.Common.{ap, ◌∙◌}
use Rattle.std.specs.Prelude.{filter}
use Rattle.std.proofs.lemmas.Iterator.Consumers.{YieldsList-from_rest, YieldsList-end}
use Rattle.archive_keep.specs.Archive.{retained_at}
use Rattle.replay_run.specs.Selection.{is_in_range}
use Rattle.replay_run.proofs.selection.chosen.Goals as goal

pub returns : goal.returns
returns c =
    let all = retained_at c.args.moment c.args.archive.now in
    let t = YieldsList-end (YieldsList-from_rest {shows = λ b. b.now} {s = c.into_iter-event-iterator.result} all (cc)) c.loop-event.yielded _
    c.loop-event.yielded_by _ _ c.in-None.is c.next.ensures.steps in
    c.loop-event.invariant ∙ ap (filter (is_in_range c.args.range)) t.0
