use Rattle.std.proofs.Common.{◌≡◌, length, ◌∙◌, rules}
use Rattle.replay_run.proofs.ReplaysLemmas.{running_length}
use Rattle.replay_run.proofs.replays.Replays.running_count.Goals as goal

pub returns : goal.returns
returns c =
    let counted : c.len.result ≡ length c.self.inside.running.items = search rules in
    counted ∙ running_length c.self.inside.all c.self.inside.running.items c.args.self.now c.self.invariant.2.runs c.self.view_is
