use Rattle.std.proofs.lemmas.List.Elements.{All-from_recursion}
use Rattle.rule_table.specs.Control.{targets_put}
use Rattle.rule_table.specs.View.{control_of}
use Rattle.rule_table.specs.WellFormed.{IsSpelled, HasValidInput}
use Rattle.entry_bytes.specs.ChangeReading.{targets_put_at}
use Rattle.entry_bytes.proofs.Finding.{found_so, missing_so}
use Rattle.entry_bytes.proofs.ChangeFinding.{targets_found, targets_refused, names_missing}
use Rattle.entry_bytes.proofs.change.take_targets_put.Goals as goal

pub returns-in_ok-control-in-Ok-take_targets : goal.returns-in_ok-control-in-Ok-take_targets
returns-in_ok-control-in-Ok-take_targets c =
    let found = c.in-Ok-take_targets.ensures in
    let control = targets_put c.in-Ok.bus.now c.in-Ok.rule.now c.in-Ok-take_targets.targets.items in
    found_so IsSpelled (targets_put_at c.args.bytes.now) control (control_of c.in_ok-control-in-Ok-take_targets.control) c.in-Ok-take_targets.rest.now
    (targets_found c.args.bytes.now c.in-Ok.bus.now c.in-Ok.rule.now c.in-Ok.left.now c.in-Ok-take_targets.targets.items c.in-Ok-take_targets.rest.now c.in-Ok.ensures found.0)
    c.in_ok-control-in-Ok-take_targets.ensures
    (All-from_recursion HasValidInput c.in-Ok-take_targets.targets.items found.1)

pub returns-in-Err-take_targets : goal.returns-in-Err-take_targets
returns-in-Err-take_targets c = targets_refused c.args.bytes.now c.in-Ok.bus.now c.in-Ok.rule.now c.in-Ok.left.now c.in-Err-take_targets.fault
    c.in-Ok.ensures c.in-Err-take_targets.ensures

pub returns-in-Err : goal.returns-in-Err
returns-in-Err c = missing_so IsSpelled (targets_put_at c.args.bytes.now) c.in-Err.fault (names_missing c.args.bytes.now c.in-Err.fault c.in-Err.ensures)
