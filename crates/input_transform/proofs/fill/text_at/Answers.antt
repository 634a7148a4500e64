use Rattle.json_text.specs.View.{tree_of}
use Rattle.input_transform.proofs.FillLemmas.{found_value}
use Rattle.input_transform.proofs.fill.text_at.Goals as goal

pub text_of_value-requires : goal.text_of_value-requires
text_of_value-requires c = found_value c.args.path.now (tree_of c.args.event.now) (tree_of c.in-Some.found.now) c.requires c.in-Some.ensures
