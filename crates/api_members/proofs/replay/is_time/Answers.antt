use Rattle.json_text.specs.View.{tree_of}
use Rattle.api_members.proofs.TimeLemmas.{time_found}
use Rattle.api_members.proofs.replay.is_time.Goals as goal

pub returns : goal.returns
returns c = rw (c.is_some.ensures) (time_found (tree_of c.args.value.now) c.read_time.result c.read_time.ensures)
