use Rattle.std.proofs.Common.{refl}
use Rattle.router_core.specs.Steps.{record_of}
use Rattle.duty_journal.proofs.HomeLemmas.{nowhere_appended, record_fits, record_next, recorded_in, sound_in}
use Rattle.duty_journal.proofs.home.Home.append_attempt.Goals as goal

pub append_attempt-requires-clause-sound : goal.append_attempt-requires-clause-sound
append_attempt-requires-clause-sound g c κs lives = sound_in g.D.Disk.calls c.args.self.now c.in-Journal.journal c.in-Journal.is c.requires.sound

pub append_attempt-requires-clause-next : goal.append_attempt-requires-clause-next
append_attempt-requires-clause-next g c κs lives =
    record_next c.args.self.now c.in-Journal.journal c.attempt_record.result (record_of c.args.moment c.args.duty c.args.outcome) c.in-Journal.is
    c.attempt_record.ensures (record_fits c.args.moment c.args.duty c.args.outcome c.ranges.moment.fits c.ranges.duty.fits c.has_bytes.ensures) c.requires.next

pub returns-in-Nowhere : goal.returns-in-Nowhere
returns-in-Nowhere g c =
    nowhere_appended g.D.Disk.calls g.D.Disk.faults c.args.self.now (record_of c.args.moment c.args.duty c.args.outcome) c.in-Nowhere.is

pub returns-in-Journal : goal.returns-in-Journal
returns-in-Journal g c =
    recorded_in g.D.Disk.calls g.D.Disk.faults c.args.self.now _ c.in-Journal.journal c.append_attempt.new.self c.attempt_record.result
    (record_of c.args.moment c.args.duty c.args.outcome) c.append_attempt.result c.in-Journal.is refl c.attempt_record.ensures
    (record_fits c.args.moment c.args.duty c.args.outcome c.ranges.moment.fits c.ranges.duty.fits c.has_bytes.ensures) c.requires.next c.append_attempt.ensures
