use Rattle.pattern_meaning.specs.Frames.{todo_weight}
use Rattle.pattern_meaning.proofs.absent.+gathered.Given as goal

abbrev pub decreases-gathered : goal.decreases-gathered
decreases-gathered l = todo_weight l.todo.now
