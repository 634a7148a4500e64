use Rattle.std.proofs.Common.{refl}
use Rattle.duty_journal.proofs.HomeLemmas.{appended_in, next_in, none_in, nowhere_appended, sound_in}
use Rattle.duty_journal.proofs.home.Home.append.Goals as goal

pub append-requires-clause-sound : goal.append-requires-clause-sound
append-requires-clause-sound g c κs lives = sound_in g.D.Disk.calls c.args.self.now c.in-Journal.journal c.in-Journal.is c.requires.sound

pub append-requires-clause-next : goal.append-requires-clause-next
append-requires-clause-next g c κs lives =
    next_in c.args.self.now c.in-Journal.journal c.args.prepared.now c.in-Some.prepared c.in-Journal.is c.in-Some.is c.requires.next

pub unreachable-requires : goal.unreachable-requires
unreachable-requires g c = none_in c.args.self.now c.in-Journal.journal c.args.prepared.now c.in-Journal.is c.in-None.is c.requires.next

pub returns-in-Nowhere : goal.returns-in-Nowhere
returns-in-Nowhere g c = λ b fits can. nowhere_appended g.D.Disk.calls g.D.Disk.faults c.args.self.now b c.in-Nowhere.is

pub returns-in-Some : goal.returns-in-Some
returns-in-Some g c = λ b fits can.
    appended_in g.D.Disk.calls g.D.Disk.faults c.args.self.now _ c.in-Journal.journal c.append.new.self c.args.prepared.now c.in-Some.prepared b
    c.append.result c.in-Journal.is refl c.in-Some.is fits can c.append.ensures
