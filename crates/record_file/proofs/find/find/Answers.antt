use Rattle.std.proofs.Common.{ℕ, ◌-◌, ◌≤◌, length, refl, ap, subst, ◌∙◌, arith}
use Rattle.record_file.specs.Next.{PayloadIs, found_outcome}
use Rattle.record_file.proofs.RecordLemmas.{length-length_bytes}
use Rattle.record_file.proofs.LookLemmas.{OnlyLooks-then, OnlyLooks-file, OnlyLooks-answers}
use Rattle.record_file.proofs.FindLemmas.{Counts-then, found_closed, found_short, head_whole, payload_found, window_piece}
use Rattle.record_file.proofs.find.find.Goals as goal

pub returns-in-Failed-clause-covers : goal.returns-in-Failed-clause-covers
returns-in-Failed-clause-covers g c = λ n same. absurd (cc same)

pub returns-in-NoMemory-clause-covers : goal.returns-in-NoMemory-clause-covers
returns-in-NoMemory-clause-covers g c = λ n same. absurd (cc same)

pub returns-in-Closed-clause-covers : goal.returns-in-Closed-clause-covers
returns-in-Closed-clause-covers g c = λ n same. absurd (cc same)

pub returns-in-Short-clause-covers : goal.returns-in-Short-clause-covers
returns-in-Short-clause-covers g c = λ n same. absurd (cc same)

pub find_payload-requires-after_bounds : goal.find_payload-requires-after_bounds
find_payload-requires-after_bounds g c =
    omega (arith, ap (λ m. length m) c.in-Length.ensures.0, length-length_bytes c.in-Length.len, c.piece.ensures.len, c.min-ahead.ensures)

pub returns-in-Closed-clause-found : goal.returns-in-Closed-clause-found
returns-in-Closed-clause-found g c = λ first file answers known is size.
    found_closed file c.args.place c.min-ahead.result c.piece.result.now
    (c.piece.ensures.piece ∙ window_piece file c.reach.new.self c.args.place c.min-ahead.result (c.reach.ensures.window first file answers known is)
    (c.in-Ready.ensures.covers refl))
    c.in-Closed.ensures

pub returns-in-Short-clause-found : goal.returns-in-Short-clause-found
returns-in-Short-clause-found g c = λ first file answers known is size.
    found_short file c.args.place c.min-ahead.result c.piece.result.now
    (c.piece.ensures.piece ∙ window_piece file c.reach.new.self c.args.place c.min-ahead.result (c.reach.ensures.window first file answers known is)
    (c.in-Ready.ensures.covers refl))
    (omega (arith, c.min-ahead.ensures, size)) c.in-Short.ensures

pub returns-in-Length-clause-looks : goal.returns-in-Length-clause-looks
returns-in-Length-clause-looks g c =
    OnlyLooks-then (g.D.Disk.calls c.args.disk.now) (g.D.Disk.calls c.reach.new.disk) (g.D.Disk.calls c.find_payload.new.disk)
    c.reach.ensures.looks c.find_payload.ensures.looks

pub returns-in-Length-clause-count : goal.returns-in-Length-clause-count
returns-in-Length-clause-count g c =
    Counts-then (g.D.Disk.faults c.args.disk.now) (g.D.Disk.faults c.reach.new.disk) (g.D.Disk.faults c.find_payload.new.disk)
    (found_outcome c.find_payload.result) c.in-Ready.ensures.count c.find_payload.ensures.count

pub returns-in-Length-clause-window : goal.returns-in-Length-clause-window
returns-in-Length-clause-window g c = λ first file answers known is.
    let old = g.D.Disk.calls c.args.disk.now in
    let mid = g.D.Disk.calls c.reach.new.disk in
    let new = g.D.Disk.calls c.find_payload.new.disk in
    c.find_payload.ensures.window first file answers (OnlyLooks-file first old mid c.reach.ensures.looks ∙ known)
    (c.reach.ensures.window first file (OnlyLooks-answers first mid new c.find_payload.ensures.looks answers) known is)

pub returns-in-Length-clause-found : goal.returns-in-Length-clause-found
returns-in-Length-clause-found g c = λ first file answers known is size.
    let mid = g.D.Disk.calls c.reach.new.disk in
    let new = g.D.Disk.calls c.find_payload.new.disk in
    let window = c.reach.ensures.window first file (OnlyLooks-answers first mid new c.find_payload.ensures.looks answers) known is in
    let shown = c.piece.ensures.piece ∙ window_piece file c.reach.new.self c.args.place c.min-ahead.result window (c.in-Ready.ensures.covers refl) in
    let most : c.min-ahead.result ≤ 9 = omega (arith, c.min-ahead.ensures) in
    let within : c.min-ahead.result ≤ length file - c.args.place = omega (arith, c.min-ahead.ensures, size) in
    payload_found file c.args.place c.in-Length.len c.find_payload.result
    (head_whole file c.args.place c.min-ahead.result c.piece.result.now shown c.in-Length.len c.in-Length.ensures.0 most within).1
    c.in-Length.ensures.1
    (subst (λ (n : ℕ). PayloadIs n c.args.place c.in-Length.len c.find_payload.result) size c.find_payload.ensures.found)
