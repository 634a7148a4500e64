use Rattle.entry_bytes.proofs.Formats.{has_utf8, has_no_utf8}
use Rattle.entry_bytes.proofs.texts.text_of.Goals as goal

pub returns-in-Ok : goal.returns-in-Ok
returns-in-Ok c = has_utf8 c.args.bytes.now c.in-Ok.text.now c.in-Ok.ensures.cases.1 c.in-Ok.ensures.cases.0

pub returns-in-Err : goal.returns-in-Err
returns-in-Err c = has_no_utf8 c.args.bytes.now c.in-Err.ensures.cases.0
