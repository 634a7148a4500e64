use Rattle.rule_table.specs.WellFormed.{HasValidInput}
use Rattle.entry_bytes.specs.ChangeReading.{target_at}
use Rattle.entry_bytes.specs.TargetReading.{parts_of}
use Rattle.entry_bytes.proofs.Finding.{found_so, refused_so, missing_so}
use Rattle.entry_bytes.proofs.target.take_target.Goals as goal

pub returns-in-Ok-made : goal.returns-in-Ok-made
returns-in-Ok-made c = found_so HasValidInput (target_at c.args.bytes.now) (parts_of c.in-Ok.parts) c.in-Ok-made.target c.in-Ok.rest.now
    c.in-Ok.ensures c.in-Ok-made.ensures.0 c.in-Ok-made.ensures.1

pub returns-in-Err-made : goal.returns-in-Err-made
returns-in-Err-made c = refused_so HasValidInput (target_at c.args.bytes.now) (parts_of c.in-Ok.parts) c.in-Ok.rest.now c.in-Err-made.fault
    c.in-Ok.ensures c.in-Err-made.ensures

pub returns-in-Err : goal.returns-in-Err
returns-in-Err c = missing_so HasValidInput (target_at c.args.bytes.now) c.in-Err.fault c.in-Err.ensures
