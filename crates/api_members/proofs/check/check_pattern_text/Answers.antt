use Rattle.api_members.proofs.RefusalLemmas.{text_refused}
use Rattle.api_members.proofs.check.check_pattern_text.Goals as goal

pub returns-in-Err : goal.returns-in-Err
returns-in-Err c =
    text_refused c.args.text.now c.in-Err.fault c.pattern_fault.result (rw (← c.as_bytes.ensures.value) c.in-Err.ensures.refused)
    c.pattern_fault.ensures
