use Rattle.replay_run.specs.Replay.{new_replay}
use Rattle.replay_run.proofs.ReplayLemmas.{acts_front, acts_all}
use Rattle.replay_run.proofs.laws.steps_are_a_front_of_the_selection.Goals as goal

pub returns-clause-front : goal.returns-clause-front
returns-clause-front c = λ selection acts. acts_front acts (new_replay selection)

pub returns-clause-all : goal.returns-clause-all
returns-clause-all c = acts_all
