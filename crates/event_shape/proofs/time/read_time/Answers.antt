use Rattle.std.proofs.Common.{ap, ◌∙◌}
use Rattle.json_text.specs.View.{tree_of}
use Rattle.json_text.proofs.ViewLemmas.{tree_of_number, tree_of_text}
use Rattle.event_shape.proofs.time.read_time.Goals as goal

pub returns-in-Num : goal.returns-in-Num
returns-in-Num c =
    let found = rw c.as_str.ensures at c.number_moment.ensures in
    rw (ap tree_of c.in-Num.is ∙ tree_of_number c.in-Num.spelling) found

pub returns-in-Str : goal.returns-in-Str
returns-in-Str c =
    let found = rw (c.as_bytes.ensures.value, c.as_str-in-Str.ensures) at c.text_moment.ensures in
    rw (ap tree_of c.in-Str.is ∙ tree_of_text c.in-Str.text) found
