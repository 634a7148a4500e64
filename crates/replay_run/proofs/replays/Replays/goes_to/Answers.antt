use Rattle.std.proofs.Common.{ap, ◌∙◌}
use Rattle.replay_run.specs.Replays.{is_one_sent_to, is_sent_to}
use Rattle.replay_run.proofs.ReplaysLemmas.{sent_so}
use Rattle.replay_run.proofs.replays.Replays.goes_to.Goals as goal

pub returns : goal.returns
returns c =
    let es = c.self.inside.all in
    c.is_one_sent_to.ensures ∙ ap (is_one_sent_to c.args.bus.now es) c.deref.ensures.value
    ∙ sent_so c.args.bus.now es _ _ c.self.invariant.2 ∙ ap (is_sent_to c.args.bus.now) c.self.view_is
