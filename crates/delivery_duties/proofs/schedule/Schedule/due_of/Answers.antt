use Rattle.std.proofs.Common.{◌≡◌, ◌+◌, ◌<◌, ◌^◌, sym, ◌∙◌, arith}
use Rattle.delivery_duties.specs.declared.duty.DutyRow.{DutyRow}
use Rattle.delivery_duties.proofs.FromLemmas.{from_some, from_none, from_shorter, none_up_to}
use Rattle.delivery_duties.proofs.RowsLemmas.{entry_has}
use Rattle.delivery_duties.proofs.OrderLemmas.{is_free_at, line_in_reach, none_free_in}
use Rattle.delivery_duties.proofs.schedule.Schedule.due_of.Goals as goal

pub returns-then-number : goal.returns-then-number
returns-then-number c =
    let first = from_some c.loop-key.from c.in-Some.key c.in-Some.owed.now c.in-Some.ensures.0 c.self.inside.line c.self.invariant.line_sorted c.in-Some.ensures.1 in
    is_free_at c.in-Some.key c.in-Some.owed.now c.due.result c.args.number c.self.invariant c.self.view_is first.there
    (sym c.number.ensures ∙ c.if-number.true) c.due.ensures

pub overflow_add-from : goal.overflow_add-from
overflow_add-from c =
    let first = from_some c.loop-key.from c.in-Some.key c.in-Some.owed.now c.in-Some.ensures.0 c.self.inside.line c.self.invariant.line_sorted c.in-Some.ensures.1 in
    let small = entry_has (λ key row. key + 1 < 2 ^ 128) c.in-Some.key c.in-Some.owed.now c.self.inside.line (line_in_reach c.self.invariant).1 first.there in
    omega (arith, small)

pub loop-key-smaller : goal.loop-key-smaller
loop-key-smaller c =
    from_shorter c.loop-key.from c.in-Some.key c.in-Some.owed.now c.in-Some.ensures.0 c.self.inside.line c.self.invariant.line_sorted c.in-Some.ensures.1

pub loop-key-preserved : goal.loop-key-preserved
loop-key-preserved c =
    let first = from_some c.loop-key.from c.in-Some.key c.in-Some.owed.now c.in-Some.ensures.0 c.self.inside.line c.self.invariant.line_sorted c.in-Some.ensures.1 in
    none_up_to (λ (row : DutyRow). row.number ≡ c.args.number) first c.loop-key.invariant
    (λ named. c.if-number.false (c.number.ensures ∙ named))

pub returns : goal.returns
returns c = none_free_in c.args.number c.self.invariant c.self.view_is
    (λ key row there named. c.loop-key.invariant key row (from_none c.loop-key.from key row c.self.inside.line c.in_default.ensures there) there named)
