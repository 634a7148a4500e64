use Rattle.input_transform.proofs.PathLemmas.{letters_utf8}
use Rattle.input_transform.proofs.path_text.text_of_letters.Goals as goal

pub unreachable-requires : goal.unreachable-requires
unreachable-requires c = c.in-Err.ensures.cases.0 (letters_utf8 c.args.bytes.now c.requires)
