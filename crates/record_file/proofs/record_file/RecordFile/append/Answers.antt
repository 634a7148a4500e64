use Rattle.std.proofs.Common.{◌≡◌, ◌+◌, [], ◌++◌, length, Ok, Err, sym, arith, append-nil}
use Rattle.record_file.specs.Records.{first_gate}
use Rattle.record_file.specs.State.{payloads_of}
use Rattle.record_file.proofs.CrashLemmas.{append_rests}
use Rattle.record_file.proofs.KeptLemmas.{appended_calls, appended_front, both, stays}
use Rattle.record_file.proofs.StateLemmas.{moved, shown_push}
use Rattle.record_file.proofs.record_file.RecordFile.append.Goals as goal

pub returns-then-self-clause-any_moment : goal.returns-then-self-clause-any_moment
returns-then-self-clause-any_moment g c = λ whole. absurd (cc (whole, c.if-self.true))

pub returns-then-self-clause-kept : goal.returns-then-self-clause-kept
returns-then-self-clause-kept g c = λ whole. absurd (cc (whole, c.if-self.true))

-- a file that is broken makes no call
pub returns-then-self-clause-four_calls : goal.returns-then-self-clause-four_calls
returns-then-self-clause-four_calls g c = ([], sym (append-nil (g.D.Disk.calls c.args.self.now.disk)))

-- the file is at rest again, with all payloads
pub returns-in-Ok-clause-sound : goal.returns-in-Ok-clause-sound
returns-in-Ok-clause-sound g c = λ whole first answers.
    let old = g.D.Disk.calls c.args.self.now.disk in
    let new = g.D.Disk.calls c.append_text.new.disk in
    let before = payloads_of c.args.self.now in
    let more = c.args.payloads.now in
    let place = c.args.self.now.gate in
    let text = c.args.text.now in
    let calls = c.in-Ok.ensures.calls in
    let rests = c.requires.sound c.if-self.false first (appended_front first old new place text (Ok tt) calls answers) in
    let done = append_rests first_gate first old before more place text rests c.requires.text new calls answers in
    let grown : place + length text ≡ c.saturating_add-gate.result = omega (arith, c.saturating_add-gate.ensures, done.low) in
    moved first_gate first new (before ++ more) _ (place + length text) c.saturating_add-gate.result
    (shown_push c.args.self.now.appended.items c.and-appended.result.items more c.and-appended.ensures) grown done

pub returns-in-Ok-clause-answers : goal.returns-in-Ok-clause-answers
returns-in-Ok-clause-answers g c = λ first answers.
    appended_front first (g.D.Disk.calls c.args.self.now.disk) (g.D.Disk.calls c.append_text.new.disk) c.args.self.now.gate c.args.text.now (Ok tt)
    c.in-Ok.ensures.calls answers

pub returns-in-Err-clause-answers : goal.returns-in-Err-clause-answers
returns-in-Err-clause-answers g c = λ first answers.
    appended_front first (g.D.Disk.calls c.args.self.now.disk) (g.D.Disk.calls c.append_text.new.disk) c.args.self.now.gate c.args.text.now
    (Err c.in-Err.field-0) c.in-Err.ensures.calls answers

pub returns-in-Ok-clause-four_calls : goal.returns-in-Ok-clause-four_calls
returns-in-Ok-clause-four_calls g c =
    appended_calls (g.D.Disk.calls c.args.self.now.disk) (g.D.Disk.calls c.append_text.new.disk) c.args.self.now.gate c.args.text.now (Ok tt)
    c.in-Ok.ensures.calls

pub returns-in-Err-clause-four_calls : goal.returns-in-Err-clause-four_calls
returns-in-Err-clause-four_calls g c =
    appended_calls (g.D.Disk.calls c.args.self.now.disk) (g.D.Disk.calls c.append_text.new.disk) c.args.self.now.gate c.args.text.now
    (Err c.in-Err.field-0) c.in-Err.ensures.calls

pub returns-in-Ok-clause-any_moment : goal.returns-in-Ok-clause-any_moment
returns-in-Ok-clause-any_moment g c = λ whole first answers image left.
    let old = g.D.Disk.calls c.args.self.now.disk in
    let new = g.D.Disk.calls c.append_text.new.disk in
    let place = c.args.self.now.gate in
    let text = c.args.text.now in
    let calls = c.in-Ok.ensures.calls in
    let rests = c.requires.sound c.if-self.false first (appended_front first old new place text (Ok tt) calls answers) in
    both first old new (payloads_of c.args.self.now) c.args.payloads.now place text rests c.requires.text (Ok tt) calls image left

pub returns-in-Ok-clause-kept : goal.returns-in-Ok-clause-kept
returns-in-Ok-clause-kept g c = λ whole first found since answers kept.
    let old = g.D.Disk.calls c.args.self.now.disk in
    let new = g.D.Disk.calls c.append_text.new.disk in
    let place = c.args.self.now.gate in
    let text = c.args.text.now in
    let calls = c.in-Ok.ensures.calls in
    let rests = c.requires.sound c.if-self.false first (appended_front first old new place text (Ok tt) calls answers) in
    stays first old new (payloads_of c.args.self.now) c.args.payloads.now place text rests c.requires.text (Ok tt) calls answers found since kept

pub returns-in-Err-clause-any_moment : goal.returns-in-Err-clause-any_moment
returns-in-Err-clause-any_moment g c = λ whole first answers image left.
    let old = g.D.Disk.calls c.args.self.now.disk in
    let new = g.D.Disk.calls c.append_text.new.disk in
    let place = c.args.self.now.gate in
    let text = c.args.text.now in
    let calls = c.in-Err.ensures.calls in
    let rests = c.requires.sound c.if-self.false first (appended_front first old new place text (Err c.in-Err.field-0) calls answers) in
    both first old new (payloads_of c.args.self.now) c.args.payloads.now place text rests c.requires.text (Err c.in-Err.field-0) calls image left

pub returns-in-Err-clause-kept : goal.returns-in-Err-clause-kept
returns-in-Err-clause-kept g c = λ whole first found since answers kept.
    let old = g.D.Disk.calls c.args.self.now.disk in
    let new = g.D.Disk.calls c.append_text.new.disk in
    let place = c.args.self.now.gate in
    let text = c.args.text.now in
    let calls = c.in-Err.ensures.calls in
    let rests = c.requires.sound c.if-self.false first (appended_front first old new place text (Err c.in-Err.field-0) calls answers) in
    stays first old new (payloads_of c.args.self.now) c.args.payloads.now place text rests c.requires.text (Err c.in-Err.field-0) calls answers found since kept
