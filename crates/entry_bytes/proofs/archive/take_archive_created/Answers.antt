use Rattle.rule_table.specs.View.{control_of}
use Rattle.rule_table.specs.WellFormed.{IsSpelled}
use Rattle.entry_bytes.specs.ChangeReading.{archive_created_at}
use Rattle.entry_bytes.specs.TargetReading.{archive_of}
use Rattle.entry_bytes.proofs.Finding.{found_so, refused_so, missing_so}
use Rattle.entry_bytes.proofs.archive.take_archive_created.Goals as goal

pub returns-in-Ok-made_archive : goal.returns-in-Ok-made_archive
returns-in-Ok-made_archive c = found_so IsSpelled (archive_created_at c.args.bytes.now) (archive_of c.in-Ok.parts) (control_of c.in-Ok-made_archive.control) c.in-Ok.rest.now
    c.in-Ok.ensures c.in-Ok-made_archive.ensures.0 c.in-Ok-made_archive.ensures.1

pub returns-in-Err-made_archive : goal.returns-in-Err-made_archive
returns-in-Err-made_archive c = refused_so IsSpelled (archive_created_at c.args.bytes.now) (archive_of c.in-Ok.parts) c.in-Ok.rest.now c.in-Err-made_archive.fault
    c.in-Ok.ensures c.in-Err-made_archive.ensures

pub returns-in-Err : goal.returns-in-Err
returns-in-Err c = missing_so IsSpelled (archive_created_at c.args.bytes.now) c.in-Err.fault c.in-Err.ensures
