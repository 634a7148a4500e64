use Rattle.std.proofs.Common.{◌≡◌, ℕ, List, true, Some, subst, arith}
use Rattle.std.proofs.lemmas.Bool.Decides.{nat_tests}
use Rattle.event_shape.specs.Names.{IsQueueArn}
use Rattle.delivery_duties.specs.declared.outcome.Outcome.TheVariants.{Accepted}
use Rattle.delivery_duties.specs.Duties.{Duties, pending_row}
use Rattle.delivery_queues.specs.Queues.{has_queue}
use Rattle.duty_journal.proofs.RedoLemmas.{free_at}
use Rattle.duty_journal.proofs.admit.admit_attempt.Goals as goal

pub returns-then-has_its_queue-clause-ok : goal.returns-then-has_its_queue-clause-ok
returns-then-has_its_queue-clause-ok c =
    let t = c.args.tables.now in
    let row = c.in-Some.row.now in
    let there = subst (λ (d : Duties). pending_row c.args.duty d ≡ Some row) c.duties.ensures c.in-Some.ensures.found in (
      record {
        row = row;
        pending = there;
        due = grind (arith, nat_tests, c.if-row-moment.false);
        queue = subst (λ (e : List ℕ). c.args.outcome ≡ Accepted → (queue : List ℕ) → IsQueueArn e queue → has_queue queue t.duties.queues ≡ true)
            c.endpoint.ensures (c.has_its_queue.ensures.0 c.if-has_its_queue.true);
      },
      (row, there, free_at c.args.duty row t.duties.pending c.requires.unclaimed there, c.in-Some.ensures.named),
    )
