use Rattle.std.proofs.Common.{Ok, Err}
use Rattle.duty_journal.specs.declared.journal.Journal.{Journal}
use Rattle.duty_journal.proofs.JournalLemmas.{appended}
use Rattle.duty_journal.proofs.journal.Journal.append_payloads.Goals as goal

pub returns-in-Ok : goal.returns-in-Ok
returns-in-Ok g c = λ start more same recordable.
    let e = c.in-Ok.ensures in
    let new : Journal g.row.D.Denot = record { file = c.append.new.self } in
    appended g.D.Disk.calls g.D.Disk.faults c.args.self.now new c.args.payloads.now (Ok tt) c.requires.sound (record {
      sound = e.sound;
      payloads = e.payloads;
      broken = e.broken;
      no_more = e.no_more;
      count = e.count;
      answers = e.answers;
      made = e.four_calls;
      any_moment = e.any_moment;
      kept = e.kept;
    }) start more same recordable

pub returns-in-Err : goal.returns-in-Err
returns-in-Err g c = λ start more same recordable.
    let e = c.in-Err.ensures in
    let new : Journal g.row.D.Denot = record { file = c.append.new.self } in
    appended g.D.Disk.calls g.D.Disk.faults c.args.self.now new c.args.payloads.now (Err c.in-Err.field-0) c.requires.sound (record {
      sound = e.sound;
      payloads = e.payloads;
      broken = e.broken;
      no_more = e.no_more;
      count = e.count;
      answers = e.answers;
      made = e.four_calls;
      any_moment = e.any_moment;
      kept = e.kept;
    }) start more same recordable
