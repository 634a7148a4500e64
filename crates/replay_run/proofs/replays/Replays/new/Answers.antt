use Rattle.std.proofs.Common.{ℕ, length, sym, ap, arith}
use Rattle.replay_run.specs.declared.row.ReplayRow.{ReplayRow}
use Rattle.replay_run.specs.Replays.{rows_in}
use Rattle.replay_run.proofs.ReplaysLemmas.{none_sound}
use Rattle.replay_run.proofs.replays.Replays.new.Goals as goal

pub invariant_of-result : goal.invariant_of-result
invariant_of-result c = (
  omega (arith, c.in_ok-running.ensures.capacity),
  ap (length {A = ℕ × ReplayRow}) (sym c.new-all.ensures),
  none_sound c.new-all.result c.in_ok-running.running.items c.in_ok-names.names c.new-all.ensures c.in_ok-running.ensures.items c.in_ok-names.ensures,
)

pub returns : goal.returns
returns c = ap rows_in c.new-all.ensures
