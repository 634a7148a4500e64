use Rattle.router_core.proofs.RepeatedLemmas.{repeats_all, repeats_front}
use Rattle.router_core.proofs.laws.a_replay_repeats_a_front_of_its_selection.Goals as goal

pub returns : goal.returns
returns c = record { front = repeats_front; all = repeats_all }
