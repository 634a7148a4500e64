use Rattle.delivery_duties.proofs.OrderLemmas.{out_found, out_is, taken_as}
use Rattle.delivery_duties.proofs.schedule.Schedule.take.Goals as goal

pub unreachable-requires : goal.unreachable-requires
unreachable-requires c =
    let (row, there, _, _) = out_found c.args.number c.from.result c.self.invariant c.self.view_is c.requires c.from.ensures in
    let none = c.in-None.ensures.found in
    absurd (cc)

pub invariant_of-self : goal.invariant_of-self
invariant_of-self c = (taken_as c.args.number c.from.result c.self.invariant c.self.view_is c.requires c.from.ensures c.in-Some.ensures.left).0

pub returns-clause-row : goal.returns-clause-row
returns-clause-row c =
    (out_is c.in-Some.node c.args.number c.from.result c.self.invariant c.self.view_is c.requires c.from.ensures c.in-Some.ensures.found).0

pub returns-clause-claimed : goal.returns-clause-claimed
returns-clause-claimed c =
    (out_is c.in-Some.node c.args.number c.from.result c.self.invariant c.self.view_is c.requires c.from.ensures c.in-Some.ensures.found).1

pub returns-clause-named : goal.returns-clause-named
returns-clause-named c =
    (out_is c.in-Some.node c.args.number c.from.result c.self.invariant c.self.view_is c.requires c.from.ensures c.in-Some.ensures.found).2

pub returns-clause-small : goal.returns-clause-small
returns-clause-small c =
    (out_is c.in-Some.node c.args.number c.from.result c.self.invariant c.self.view_is c.requires c.from.ensures c.in-Some.ensures.found).3

pub returns-clause-left : goal.returns-clause-left
returns-clause-left c = (taken_as c.args.number c.from.result c.self.invariant c.self.view_is c.requires c.from.ensures c.in-Some.ensures.left).1
