use Rattle.std.proofs.Common.{ap}
use Rattle.router_core.specs.Tables.{Tables}
use Rattle.router_history.specs.declared.book.Machine.{Machine}
use Rattle.router_history.specs.Book.{why_of}
use Rattle.router_history.proofs.BookLemmas.{book_with, added_of}
use Rattle.router_history.proofs.RecordLemmas.{errand_open, back_made, back_rests, put_back_book, back}
use Rattle.router_history.proofs.book.Machine.put_back.Goals as goal

pub put_back-requires : goal.put_back-requires
put_back-requires c = errand_open c.args.seat.pass c.args.self.now c.args.held c.requires.kept c.requires.holds

pub returns-clause-kept : goal.returns-clause-kept
returns-clause-kept c =
    put_back_book c.args.held
    (back_made c.args.seat c.args.self.now _ c.args.held c.of.result.value (why_of c.args.why) c.control_count.result c.set.result.now c.requires.kept c.of.ensures
    c.control_count.ensures.count c.set.ensures c.push.ensures.turns)
    c.requires.holds c.requires.reason c.put_back.ensures

pub returns-clause-rests : goal.returns-clause-rests
returns-clause-rests c =
    let new : Machine = book_with c.args.self.now c.put_back.new.self c.push.new.self (ap (λ (t : Tables). t.set) c.put_back.ensures) in
    back_rests
    (back_made c.args.seat c.args.self.now new c.args.held c.of.result.value (why_of c.args.why) c.control_count.result c.set.result.now c.requires.kept c.of.ensures
    c.control_count.ensures.count c.set.ensures c.push.ensures.turns)

pub returns-clause-put_back : goal.returns-clause-put_back
returns-clause-put_back c =
    let new : Machine = book_with c.args.self.now c.put_back.new.self c.push.new.self (ap (λ (t : Tables). t.set) c.put_back.ensures) in
    back c.args.held
    (back_made c.args.seat c.args.self.now new c.args.held c.of.result.value (why_of c.args.why) c.control_count.result c.set.result.now c.requires.kept c.of.ensures
    c.control_count.ensures.count c.set.ensures c.push.ensures.turns)

pub returns-clause-added : goal.returns-clause-added
returns-clause-added c =
    let new : Machine = book_with c.args.self.now c.put_back.new.self c.push.new.self (ap (λ (t : Tables). t.set) c.put_back.ensures) in
    added_of
    (back_made c.args.seat c.args.self.now new c.args.held c.of.result.value (why_of c.args.why) c.control_count.result c.set.result.now c.requires.kept c.of.ensures
    c.control_count.ensures.count c.set.ensures c.push.ensures.turns)
