use Rattle.std.proofs.Common.{ℕ, Some, refl, sym, ap, ◌∙◌, subst}
use Rattle.router_core.specs.Admitted.{IsAdmitted}
use Rattle.router_requests.specs.Batch.{Batch}
use Rattle.router_requests.specs.View.{batch_of}
use Rattle.router_core.specs.Tables.{Tables, after_batch, moment_at}
use Rattle.router_core.specs.Steps.{record_of, fate_after}
use Rattle.router_history.specs.declared.book.Machine.{Machine}
use Rattle.router_history.proofs.BookLemmas.{book_with, added_of}
use Rattle.router_history.proofs.RecordLemmas.{errand_open, recording, recorded, recorded_book, record_rests}
use Rattle.router_history.proofs.book.Machine.record.Goals as goal

pub finish-fate-requires-clause-errand : goal.finish-fate-requires-clause-errand
finish-fate-requires-clause-errand c = errand_open c.args.seat.pass c.args.self.now c.args.held c.requires.kept c.requires.holds

pub finish-fate-requires-clause-recorded : goal.finish-fate-requires-clause-recorded
finish-fate-requires-clause-recorded c =
    let batch = c.requires.recorded.1 in
    (c.args.outcome, batch ∙ ap (λ m. record_of m c.args.held.errand.claim.number c.args.outcome) (sym (ap (λ (b : Batch). b.moment) batch)))

pub returns-clause-kept : goal.returns-clause-kept
returns-clause-kept c =
    let batch = c.requires.recorded.1 in
    let n : ℕ = c.args.held.errand.claim.number in
    let m : ℕ = moment_at c.args.self.now.tables c.args.held.reading in
    let moment = ap (λ (b : Batch). b.moment) batch in
    let shown = c.of.ensures ∙ c.batch.ensures in
    recorded_book (recording c.args.seat c.args.held c.of-about.result.value c.args.had c.args.outcome c.finish-fate.result.0 m c.args.self.now _
    (batch_of c.of.result.value) c.control_count-k.result c.set.result.now c.requires.kept c.requires.holds refl c.requires.fits c.requires.numbered c.requires.unbroken
    c.requires.recorded.0 (subst (λ (b : Batch). IsAdmitted c.args.self.now.tables b) batch c.requires.admitted) (ap batch_of shown ∙ batch)
    (λ row there.
    c.finish-fate.ensures.fate row c.args.outcome there (batch ∙ ap (λ k. record_of k n c.args.outcome) (sym moment))
    ∙ ap (λ k. fate_after c.args.self.now.tables.duties.queues k row c.args.outcome) moment)
    c.of-about.ensures c.control_count-k.ensures.count c.set.ensures c.push.ensures.turns
    (c.finish-fate.ensures.tables ∙ ap (λ b. after_batch (batch_of b) c.args.self.now.tables) (sym shown)))

pub returns-clause-rests : goal.returns-clause-rests
returns-clause-rests c =
    let batch = c.requires.recorded.1 in
    let n : ℕ = c.args.held.errand.claim.number in
    let m : ℕ = moment_at c.args.self.now.tables c.args.held.reading in
    let moment = ap (λ (b : Batch). b.moment) batch in
    let shown = c.of.ensures ∙ c.batch.ensures in
    let new : Machine = book_with c.args.self.now c.finish-fate.new.self c.push.new.self
    (ap (λ (t : Tables). t.set) (c.finish-fate.ensures.tables ∙ ap (λ b. after_batch b c.args.self.now.tables) batch)) in
    let r = recording c.args.seat c.args.held c.of-about.result.value c.args.had c.args.outcome c.finish-fate.result.0 m c.args.self.now new
    (batch_of c.of.result.value) c.control_count-k.result c.set.result.now c.requires.kept c.requires.holds refl c.requires.fits c.requires.numbered c.requires.unbroken
    c.requires.recorded.0 (subst (λ (b : Batch). IsAdmitted c.args.self.now.tables b) batch c.requires.admitted) (ap batch_of shown ∙ batch)
    (λ row there.
    c.finish-fate.ensures.fate row c.args.outcome there (batch ∙ ap (λ k. record_of k n c.args.outcome) (sym moment))
    ∙ ap (λ k. fate_after c.args.self.now.tables.duties.queues k row c.args.outcome) moment)
    c.of-about.ensures c.control_count-k.ensures.count c.set.ensures c.push.ensures.turns
    (c.finish-fate.ensures.tables ∙ ap (λ b. after_batch (batch_of b) c.args.self.now.tables) (sym shown)) in
    record_rests r.adds

pub returns-clause-recorded : goal.returns-clause-recorded
returns-clause-recorded c =
    let batch = c.requires.recorded.1 in
    let n : ℕ = c.args.held.errand.claim.number in
    let m : ℕ = moment_at c.args.self.now.tables c.args.held.reading in
    let moment = ap (λ (b : Batch). b.moment) batch in
    let shown = c.of.ensures ∙ c.batch.ensures in
    let new : Machine = book_with c.args.self.now c.finish-fate.new.self c.push.new.self
    (ap (λ (t : Tables). t.set) (c.finish-fate.ensures.tables ∙ ap (λ b. after_batch b c.args.self.now.tables) batch)) in
    let r = recording c.args.seat c.args.held c.of-about.result.value c.args.had c.args.outcome c.finish-fate.result.0 m c.args.self.now new
    (batch_of c.of.result.value) c.control_count-k.result c.set.result.now c.requires.kept c.requires.holds refl c.requires.fits c.requires.numbered c.requires.unbroken
    c.requires.recorded.0 (subst (λ (b : Batch). IsAdmitted c.args.self.now.tables b) batch c.requires.admitted) (ap batch_of shown ∙ batch)
    (λ row there.
    c.finish-fate.ensures.fate row c.args.outcome there (batch ∙ ap (λ k. record_of k n c.args.outcome) (sym moment))
    ∙ ap (λ k. fate_after c.args.self.now.tables.duties.queues k row c.args.outcome) moment)
    c.of-about.ensures c.control_count-k.ensures.count c.set.ensures c.push.ensures.turns
    (c.finish-fate.ensures.tables ∙ ap (λ b. after_batch (batch_of b) c.args.self.now.tables) (sym shown)) in
    recorded r

pub returns-clause-added : goal.returns-clause-added
returns-clause-added c =
    let batch = c.requires.recorded.1 in
    let n : ℕ = c.args.held.errand.claim.number in
    let m : ℕ = moment_at c.args.self.now.tables c.args.held.reading in
    let moment = ap (λ (b : Batch). b.moment) batch in
    let shown = c.of.ensures ∙ c.batch.ensures in
    let new : Machine = book_with c.args.self.now c.finish-fate.new.self c.push.new.self
    (ap (λ (t : Tables). t.set) (c.finish-fate.ensures.tables ∙ ap (λ b. after_batch b c.args.self.now.tables) batch)) in
    let r = recording c.args.seat c.args.held c.of-about.result.value c.args.had c.args.outcome c.finish-fate.result.0 m c.args.self.now new
    (batch_of c.of.result.value) c.control_count-k.result c.set.result.now c.requires.kept c.requires.holds refl c.requires.fits c.requires.numbered c.requires.unbroken
    c.requires.recorded.0 (subst (λ (b : Batch). IsAdmitted c.args.self.now.tables b) batch c.requires.admitted) (ap batch_of shown ∙ batch)
    (λ row there.
    c.finish-fate.ensures.fate row c.args.outcome there (batch ∙ ap (λ k. record_of k n c.args.outcome) (sym moment))
    ∙ ap (λ k. fate_after c.args.self.now.tables.duties.queues k row c.args.outcome) moment)
    c.of-about.ensures c.control_count-k.ensures.count c.set.ensures c.push.ensures.turns
    (c.finish-fate.ensures.tables ∙ ap (λ b. after_batch (batch_of b) c.args.self.now.tables) (sym shown)) in
    let (turn, ask, wrote, turns) = added_of r.adds in (turn, ask, wrote ∙ ap (λ b. Some b) (sym batch), turns)
