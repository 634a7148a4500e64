use Rattle.std.proofs.Common.{refl, sym, subst, ◌∙◌}
use Rattle.duty_journal.specs.Recovery.{batches_found}
use Rattle.duty_journal.specs.declared.recover.Found.{Found}
use Rattle.journal_check.specs.Check.{HasStatus}
use Rattle.journal_check.proofs.CheckLemmas.{all_looks, fault_count, fault_found, known_first, no_write_fault_found, summed_found}
use Rattle.journal_check.proofs.journal.read.Goals as goal

pub returns-in-Ok-clause-read : goal.returns-in-Ok-clause-read
returns-in-Ok-clause-read g c =
    let old = g.D.Disk.calls c.args.disk.now in
    let new = g.D.Disk.calls c.inspect.new.disk in
    let e = c.in-Ok.ensures in
    let looks = e.looks in
    let out = summed_found new (batches_found c.in-Ok.found) c.in-Ok.found.tables (g.K.Sink.wrote c.args.output.now) (g.K.Sink.wrote c.sum_up.new.output) c.sum_up.result
    (λ first answers. e.journal first first answers (known_first first old new c.requires.opened looks)) e.found.tables c.sum_up.ensures.summed in
    record {
      looks = all_looks old new c.requires.opened looks;
      found = out.0;
      disk_fault = λ is. absurd (out.1 is);
      disk_faultless = λ _. e.count.same;
    }

pub returns-in-Err-clause-read : goal.returns-in-Err-clause-read
returns-in-Err-clause-read g c =
    let old = g.D.Disk.calls c.args.disk.now in
    let new = g.D.Disk.calls c.inspect.new.disk in
    let e = c.in-Err.ensures in
    let looks = e.looks in
    let fault = c.in-Err.fault in
    let count = fault_count Found (g.D.Disk.faults c.args.disk.now) (g.D.Disk.faults c.inspect.new.disk) fault e.count in
    let wrote = g.K.Sink.wrote c.args.output.now in
    record {
      looks = all_looks old new c.requires.opened looks;
      found = subst (HasStatus new wrote wrote) (sym c.fault_status.ensures)
          (fault_found new fault wrote wrote (λ first. known_first first old new c.requires.opened looks) e.fault refl);
      disk_fault = λ is. count.0 (sym c.fault_status.ensures ∙ is);
      disk_faultless = λ other. count.1 (λ is. other (c.fault_status.ensures ∙ is));
    }

pub returns-in-Err-clause-write_fault : goal.returns-in-Err-clause-write_fault
returns-in-Err-clause-write_fault g c = λ e. absurd (no_write_fault_found c.in-Err.fault c.fault_status.result c.fault_status.ensures e)
