use Rattle.std.proofs.Common.{[], Ok, Err, refl}
use Rattle.record_file.specs.Records.{first_gate}
use Rattle.record_file.proofs.MomentLemmas.{written_front}
use Rattle.record_file.proofs.StartLemmas.{begun_kept, begun_rests}
use Rattle.record_file.proofs.StateLemmas.{moved, shown_none}
use Rattle.record_file.proofs.record_file.RecordFile.begin.Goals as goal

pub returns-in-Ok-clause-sound : goal.returns-in-Ok-clause-sound
returns-in-Ok-clause-sound g c = λ since opened whole first answers.
    let old = g.D.Disk.calls c.args.disk in
    let new = g.D.Disk.calls c.write.new.disk in
    moved first_gate first new [] _ 8 8 (shown_none c.new-appended.result.items c.new-appended.ensures) refl
    (begun_rests old new since opened c.requires c.in-Ok.ensures.calls first answers)

pub returns-in-Ok-clause-kept : goal.returns-in-Ok-clause-kept
returns-in-Ok-clause-kept g c = λ since opened first answers.
    begun_kept (g.D.Disk.calls c.args.disk) (g.D.Disk.calls c.write.new.disk) since opened c.requires (Ok tt) c.in-Ok.ensures.calls first answers

pub returns-in-Err-clause-kept : goal.returns-in-Err-clause-kept
returns-in-Err-clause-kept g c = λ since opened first answers.
    begun_kept (g.D.Disk.calls c.args.disk) (g.D.Disk.calls c.write.new.disk) since opened c.requires (Err c.in-Err.field-0) c.in-Err.ensures.calls first answers

pub returns-in-Ok-clause-answers : goal.returns-in-Ok-clause-answers
returns-in-Ok-clause-answers g c = λ first answers.
    written_front first (g.D.Disk.calls c.args.disk) _ _ (Ok tt) (g.D.Disk.calls c.write.new.disk) c.in-Ok.ensures.calls answers

pub returns-in-Err-clause-answers : goal.returns-in-Err-clause-answers
returns-in-Err-clause-answers g c = λ first answers.
    written_front first (g.D.Disk.calls c.args.disk) _ _ (Err c.in-Err.field-0) (g.D.Disk.calls c.write.new.disk) c.in-Err.ensures.calls answers
