use Rattle.std.proofs.Common.{rules, ◌≤◌, length, sym, ◌∙◌}
use Rattle.router_calls.proofs.DecidedLemmas.{ready_so}
use Rattle.router_calls.proofs.decided.batched.Goals as goal

pub returns-clause-ready : goal.returns-clause-ready
returns-clause-ready c =
    let some : 1 ≤ length c.args.decided.entries.items = search rules in
    ready_so c.args.tables.now c.args.moment c.args.decided c.new-ready.result c.new-ready.ensures.batch c.new-ready.ensures.parts c.requires.moment
    c.requires.later (sym c.full.ensures.full ∙ c.if-full.false) some c.requires.made
