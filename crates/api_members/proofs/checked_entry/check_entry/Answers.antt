use Rattle.std.proofs.Common.{ap, sym, subst, Err}
use Rattle.json_text.specs.Checks.{IsFirst}
use Rattle.event_shape.specs.Entry.{entry_of}
use Rattle.event_shape.specs.Fault.{entry_checks}
use Rattle.api_members.proofs.checked_entry.check_entry.Goals as goal

pub returns-in-Err-Entry : goal.returns-in-Err-Entry
returns-in-Err-Entry c = let found : IsFirst (entry_checks (entry_of c.args.entry.now)) c.in-Err-Entry.fault = c.in-Err-Entry.ensures.fault c.in-Err-Entry.fault
    (ap Err c.in-Err-Entry.field-0-is)
    in subst (IsFirst (entry_checks (entry_of c.args.entry.now))) (sym c.in-Err-Entry.fault-is) found
