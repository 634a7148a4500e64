use Rattle.delivery_duties.proofs.OrderLemmas.{got_free, named_in, out_row}
use Rattle.delivery_duties.proofs.schedule.Schedule.get.Goals as goal

pub returns-in-Some-clause-found : goal.returns-in-Some-clause-found
returns-in-Some-clause-found c =
    out_row c.in-Some.owed.now c.row.result.now c.args.number c.from.result c.self.invariant c.self.view_is c.from.ensures c.in-Some.ensures c.row.ensures

pub returns-in-Some-clause-named : goal.returns-in-Some-clause-named
returns-in-Some-clause-named c =
    named_in c.row.result.now c.args.number c.self.invariant c.self.view_is
    (out_row c.in-Some.owed.now c.row.result.now c.args.number c.from.result c.self.invariant c.self.view_is c.from.ensures c.in-Some.ensures c.row.ensures)

pub returns-in-None-clause-found : goal.returns-in-None-clause-found
returns-in-None-clause-found c =
    (got_free (λ row. row.now) c.get_free.result c.args.number c.from.result c.self.invariant c.self.view_is c.from.ensures c.in-None.ensures c.get_free.ensures).0

pub returns-in-None-clause-named : goal.returns-in-None-clause-named
returns-in-None-clause-named c =
    (got_free (λ row. row.now) c.get_free.result c.args.number c.from.result c.self.invariant c.self.view_is c.from.ensures c.in-None.ensures c.get_free.ensures).1
