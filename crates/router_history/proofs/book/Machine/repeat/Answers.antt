use Rattle.std.proofs.Common.{ap, ◌∙◌}
use Rattle.router_requests.specs.View.{batch_of}
use Rattle.router_core.specs.Tables.{Tables, moment_at}
use Rattle.router_history.specs.declared.book.Machine.{Machine}
use Rattle.router_history.proofs.BookLemmas.{book_with, added_of}
use Rattle.router_history.proofs.RepeatLemmas.{step_keeps_set, repeating, repeated, repeated_book}
use Rattle.router_history.proofs.book.Machine.repeat.Goals as goal

pub returns-clause-kept : goal.returns-clause-kept
returns-clause-kept c =
    repeated_book
    (repeating c.args.seat c.args.reading c.args.self.now _ (batch_of c.of.result.value) (batch_of c.args.ready.batch) c.control_count.result c.set.result.now
    c.requires.kept c.requires.reading c.requires.numbered c.requires.unbroken c.requires.step c.requires.ready.admitted (ap batch_of (c.of.ensures ∙ c.batch.ensures))
    c.control_count.ensures.count c.set.ensures c.push.ensures.turns c.apply.ensures)

pub returns-clause-repeated : goal.returns-clause-repeated
returns-clause-repeated c =
    let old : Machine = c.args.self.now in
    let new : Machine = book_with old c.apply.new.self c.push.new.self
    (ap (λ (t : Tables). t.set) c.apply.ensures ∙ step_keeps_set old.tables (moment_at old.tables c.args.reading) (batch_of c.args.ready.batch) c.requires.step) in
    repeated
    (repeating c.args.seat c.args.reading c.args.self.now new (batch_of c.of.result.value) (batch_of c.args.ready.batch) c.control_count.result c.set.result.now
    c.requires.kept c.requires.reading c.requires.numbered c.requires.unbroken c.requires.step c.requires.ready.admitted (ap batch_of (c.of.ensures ∙ c.batch.ensures))
    c.control_count.ensures.count c.set.ensures c.push.ensures.turns c.apply.ensures)

pub returns-clause-added : goal.returns-clause-added
returns-clause-added c =
    let old : Machine = c.args.self.now in
    let new : Machine = book_with old c.apply.new.self c.push.new.self
    (ap (λ (t : Tables). t.set) c.apply.ensures ∙ step_keeps_set old.tables (moment_at old.tables c.args.reading) (batch_of c.args.ready.batch) c.requires.step) in
    let made = repeating c.args.seat c.args.reading c.args.self.now new (batch_of c.of.result.value) (batch_of c.args.ready.batch) c.control_count.result c.set.result.now
    c.requires.kept c.requires.reading c.requires.numbered c.requires.unbroken c.requires.step c.requires.ready.admitted (ap batch_of (c.of.ensures ∙ c.batch.ensures))
    c.control_count.ensures.count c.set.ensures c.push.ensures.turns c.apply.ensures in
    let (turn, ask, wrote, turns) = added_of made.adds in (turn, ask, wrote, turns)
