use Rattle.std.proofs.Common.{ℕ, ◌≤◌, refl, sym, subst, arith}
use Rattle.record_file.specs.Records.{first_gate, AreFrom}
use Rattle.record_file.specs.State.{IsAtRest}
use Rattle.record_file.proofs.StateLemmas.{moved, resumed, resumed_kept, shown_one}
use Rattle.record_file.proofs.record_file.RecordFile.resume.Goals as goal

pub returns-clause-made : goal.returns-clause-made
returns-clause-made g c = (refl, sym (shown_one c.new-log.result.items c.and-appended.result.items c.args.scan.found c.new-log.ensures c.and-appended.ensures), refl)

pub returns-clause-sound : goal.returns-clause-sound
returns-clause-sound g c = λ since opened whole first answers.
    let calls = g.D.Disk.calls c.args.disk in
    let o = opened first answers in
    let s = c.requires.scan first first answers o.known in
    let scan = c.args.scan in
    let after : 8 ≤ scan.first = omega (arith, c.requires.first) in
    moved first_gate first calls scan.found _ scan.place scan.place
    (shown_one c.new-log.result.items c.and-appended.result.items scan.found c.new-log.ensures c.and-appended.ensures) refl
    (subst (λ (at : ℕ). IsAtRest at first calls scan.found scan.place) c.requires.first
    (resumed scan.first first calls since scan.found scan.place after o s.short s.begins s.place (c.requires.closed first first answers o.known)))

pub returns-clause-kept : goal.returns-clause-kept
returns-clause-kept g c = λ since opened first answers.
    let calls = g.D.Disk.calls c.args.disk in
    let o = opened first answers in
    let s = c.requires.scan first first answers o.known in
    resumed_kept first calls since c.args.scan.found o s.begins
    (subst (λ (at : ℕ). AreFrom at first c.args.scan.found) c.requires.first (c.requires.closed first first answers o.known))
