use Rattle.rule_table.specs.View.{control_of}
use Rattle.rule_table.specs.WellFormed.{IsSpelled}
use Rattle.entry_bytes.specs.ChangeReading.{rule_put_at}
use Rattle.entry_bytes.specs.TargetReading.{rule_of}
use Rattle.entry_bytes.proofs.Finding.{found_so, refused_so, missing_so}
use Rattle.entry_bytes.proofs.change.take_rule_put.Goals as goal

pub returns-in-Ok-made_rule : goal.returns-in-Ok-made_rule
returns-in-Ok-made_rule c = found_so IsSpelled (rule_put_at c.args.bytes.now) (rule_of c.in-Ok.parts) (control_of c.in-Ok-made_rule.control) c.in-Ok.rest.now
    c.in-Ok.ensures c.in-Ok-made_rule.ensures.0 c.in-Ok-made_rule.ensures.1

pub returns-in-Err-made_rule : goal.returns-in-Err-made_rule
returns-in-Err-made_rule c = refused_so IsSpelled (rule_put_at c.args.bytes.now) (rule_of c.in-Ok.parts) c.in-Ok.rest.now c.in-Err-made_rule.fault
    c.in-Ok.ensures c.in-Err-made_rule.ensures

pub returns-in-Err : goal.returns-in-Err
returns-in-Err c = missing_so IsSpelled (rule_put_at c.args.bytes.now) c.in-Err.fault c.in-Err.ensures
