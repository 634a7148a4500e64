use Rattle.std.proofs.Common.{◌∙◌}
use Rattle.replay_run.proofs.ReplaysLemmas.{same_length}
use Rattle.replay_run.proofs.replays.Replays.count.Goals as goal

pub returns : goal.returns
returns c = c.self.invariant.1 ∙ same_length c.self.inside.all c.args.self.now c.self.view_is
