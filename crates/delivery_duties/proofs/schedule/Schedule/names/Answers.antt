use Rattle.std.proofs.Common.{◌≡◌, ◌∙◌, Bool, true, false, IsTrue, refl, sym, inl, inr, subst}
use Rattle.std.specs.List.{list_any}
use Rattle.key_tree.specs.Entries.{AreSorted}
use Rattle.delivery_duties.specs.Duties.{is_for_queue}
use Rattle.delivery_duties.proofs.OrderLemmas.{either_for, in_line_for, in_out_for, line_in_reach, out_in_reach}
use Rattle.delivery_duties.proofs.RowsLemmas.{rows_sorted}
use Rattle.delivery_duties.proofs.PassLemmas.{passes_any, any_passes, same_truth}
use Rattle.delivery_duties.proofs.schedule.Schedule.names.Goals as goal

pub is_any_for_queue-requires : goal.is_any_for_queue-requires
is_any_for_queue-requires c = line_in_reach c.self.invariant

pub is_any_for_queue-requires-else-is_any_for_queue : goal.is_any_for_queue-requires-else-is_any_for_queue
is_any_for_queue-requires-else-is_any_for_queue c = out_in_reach c.self.invariant

pub returns-then-is_any_for_queue : goal.returns-then-is_any_for_queue
returns-then-is_any_for_queue c =
    let test = is_for_queue c.args.queue.now in
    c.if-is_any_for_queue.true
    ∙ sym (passes_any test c.args.self.now (in_line_for (λ row. IsTrue (test row)) c.self.invariant c.self.view_is (c.if-is_any_for_queue.ensures.0 refl)))

pub returns-else-is_any_for_queue : goal.returns-else-is_any_for_queue
returns-else-is_any_for_queue c =
    let test = is_for_queue c.args.queue.now in
    let all = c.args.self.now in
    let sorted : AreSorted all = subst AreSorted c.self.view_is
    (rows_sorted c.self.inside.line c.self.inside.out c.self.invariant.out_sorted c.self.invariant.apart) in
    same_truth c.is_any_for_queue-else-is_any_for_queue.result (list_any (λ p. test p.1) all)
    (λ found. passes_any test all
    (in_out_for (λ row. IsTrue (test row)) c.self.invariant c.self.view_is (c.is_any_for_queue-else-is_any_for_queue.ensures.0 found)))
    (λ any. elim (either_for (λ row. IsTrue (test row)) c.self.invariant c.self.view_is (any_passes test all sorted any)) [
      | inl l ↦ let none = c.if-is_any_for_queue.ensures.1 l in absurd (cc)
      | inr o ↦ c.is_any_for_queue-else-is_any_for_queue.ensures.1 o
    ])
