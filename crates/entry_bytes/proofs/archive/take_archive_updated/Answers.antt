use Rattle.rule_table.specs.View.{control_of}
use Rattle.rule_table.specs.WellFormed.{IsSpelled}
use Rattle.entry_bytes.specs.ChangeReading.{archive_updated_at}
use Rattle.entry_bytes.specs.TargetReading.{update_of}
use Rattle.entry_bytes.proofs.Finding.{found_so, refused_so, missing_so}
use Rattle.entry_bytes.proofs.archive.take_archive_updated.Goals as goal

pub returns-in-Ok-made_update : goal.returns-in-Ok-made_update
returns-in-Ok-made_update c = found_so IsSpelled (archive_updated_at c.args.bytes.now) (update_of c.in-Ok.parts) (control_of c.in-Ok-made_update.control) c.in-Ok.rest.now
    c.in-Ok.ensures c.in-Ok-made_update.ensures.0 c.in-Ok-made_update.ensures.1

pub returns-in-Err-made_update : goal.returns-in-Err-made_update
returns-in-Err-made_update c = refused_so IsSpelled (archive_updated_at c.args.bytes.now) (update_of c.in-Ok.parts) c.in-Ok.rest.now c.in-Err-made_update.fault
    c.in-Ok.ensures c.in-Err-made_update.ensures

pub returns-in-Err : goal.returns-in-Err
returns-in-Err c = missing_so IsSpelled (archive_updated_at c.args.bytes.now) c.in-Err.fault c.in-Err.ensures
