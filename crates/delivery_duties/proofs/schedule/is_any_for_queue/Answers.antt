use Rattle.std.proofs.Common.{◌+◌, ◌<◌, ◌^◌, ◌∙◌, IsTrue, refl, sym, ap, subst, arith}
use Rattle.delivery_duties.specs.Duties.{is_for_queue}
use Rattle.delivery_duties.proofs.FromLemmas.{from_some, from_none, from_shorter, none_up_to}
use Rattle.delivery_duties.proofs.RowsLemmas.{entry_has}
use Rattle.delivery_duties.proofs.schedule.is_any_for_queue.Goals as goal

pub returns-then-is_for_queue : goal.returns-then-is_for_queue
returns-then-is_for_queue c =
    let first = from_some c.loop-key.from c.in-Some.key c.in-Some.owed.now c.in-Some.ensures.0 c.args.rows.now c.requires.0 c.in-Some.ensures.1 in
    (λ _. (c.in-Some.key, c.in-Some.owed.now, first.there, subst (λ r. IsTrue (is_for_queue c.args.queue.now r)) c.row.ensures (sym c.is_for_queue.ensures ∙ c.if-is_for_queue.true)), λ _. refl)

pub overflow_add-from : goal.overflow_add-from
overflow_add-from c =
    let first = from_some c.loop-key.from c.in-Some.key c.in-Some.owed.now c.in-Some.ensures.0 c.args.rows.now c.requires.0 c.in-Some.ensures.1 in
    let small = entry_has (λ key row. key + 1 < 2 ^ 128) c.in-Some.key c.in-Some.owed.now c.args.rows.now c.requires.1 first.there in
    omega (arith, small)

pub loop-key-smaller : goal.loop-key-smaller
loop-key-smaller c =
    from_shorter c.loop-key.from c.in-Some.key c.in-Some.owed.now c.in-Some.ensures.0 c.args.rows.now c.requires.0 c.in-Some.ensures.1

pub loop-key-preserved : goal.loop-key-preserved
loop-key-preserved c =
    let first = from_some c.loop-key.from c.in-Some.key c.in-Some.owed.now c.in-Some.ensures.0 c.args.rows.now c.requires.0 c.in-Some.ensures.1 in
    none_up_to (λ r. IsTrue (is_for_queue c.args.queue.now r)) first c.loop-key.invariant
    (λ f. let test = c.is_for_queue.ensures ∙ subst (λ r. IsTrue (is_for_queue c.args.queue.now r)) (sym c.row.ensures) f in absurd (cc))

pub returns : goal.returns
returns c = (
  λ t. absurd (cc),
  λ (n, row, there, f). absurd (c.loop-key.invariant n row (from_none c.loop-key.from n row c.args.rows.now c.in_default.ensures there) there f),
)
