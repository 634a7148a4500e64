use Rattle.std.proofs.Common.{length}
use Rattle.replay_run.proofs.replays.+is_one_sent_to.Given as goal

-- the numbers that are left
abbrev pub decreases-is_one_sent_to : goal.decreases-is_one_sent_to
decreases-is_one_sent_to l = length l.numbers.now
