use Rattle.std.proofs.Common.{ℕ, ◌+◌, List, None, false, length, map, sym, subst, refl, ap, ◌∙◌}
use Rattle.std.specs.Prelude.{All}
use Rattle.delivery_duties.specs.declared.duty.DutyRow.{DutyRow}
use Rattle.delivery_duties.specs.declared.outcome.Fate.TheVariants.{Delivered}
use Rattle.delivery_queues.specs.Queues.{Queue, has_arn, with_next}
use Rattle.delivery_duties.specs.Retry.{dead_letter_queue}
use Rattle.delivery_duties.specs.Duties.{Duties, IsOut, has_dead_letter_queue}
use Rattle.delivery_duties.specs.Sound.{IsQueueWithin}
use Rattle.delivery_duties.proofs.SoundLemmas.{sound_ended}
use Rattle.delivery_duties.proofs.StepLemmas.{taken_free, sound_back, back_keeps, within_changed, within_failed, failed_ends}
use Rattle.delivery_queues.proofs.PlaceLemmas.{names_changed}
use Rattle.delivery_duties.proofs.SettleLemmas.{gone_keeps, gone_not_out, back_not_out, names_failed}
use Rattle.delivery_duties.proofs.duties.Duties.settle.Goals as goal

pub insert-requires-clause-new_number : goal.insert-requires-clause-new_number
insert-requires-clause-new_number c =
    taken_free c.self.inside.pending c.args.claim.number c.retry.new.self.number c.take-node.new.self
    (ap (λ (o : DutyRow). o.number) (c.retry.ensures) ∙ ap (λ (o : DutyRow). o.number) c.value_mut.ensures.value ∙ c.take-node.ensures.named)
    c.take-node.ensures.left

pub invariant_of-self : goal.invariant_of-self
invariant_of-self c =
    let number_is = ap (λ (o : DutyRow). o.number) c.retry.ensures ∙ ap (λ (o : DutyRow). o.number) c.value_mut.ensures.value ∙ c.take-node.ensures.named in
    sound_back c.args.claim.number c.retry.new.self.number c.take-node.result (record c.retry.new.self { claimed = false })
    c.take-node.new.self c.insert.new.self c.self.invariant c.take-node.ensures.row number_is number_is c.take-node.ensures.left c.insert.ensures

pub invariant_of-self-in-Deliver : goal.invariant_of-self-in-Deliver
invariant_of-self-in-Deliver c =
    let s = c.self.inside in
    let owed : DutyRow = c.into_value.result in
    sound_ended c.args.claim.number c.take-node.result (record { number = c.args.claim.number; fate = Delivered }) c.take-node.new.self c.push.new.self
    c.deliver.new.queues c.self.invariant c.take-node.ensures.row refl (λ e. absurd (cc)) c.take-node.ensures.left c.push.ensures
    (subst (All (IsQueueWithin (length s.ended + 1))) (sym c.deliver.ensures)
    (within_changed (length s.ended) (has_arn owed.duty.target.endpoint) owed.duty.text None s.queues c.self.invariant.queues_within))

pub invariant_of-self-in-Fail : goal.invariant_of-self-in-Fail
invariant_of-self-in-Fail c =
    let s = c.self.inside in
    let owed : DutyRow = c.into_value-in-Fail.result in
    let arn = dead_letter_queue owed.duty.target (has_dead_letter_queue owed.duty.target s.queues) in
    sound_ended c.args.claim.number c.take-node.result (record { number = c.args.claim.number; fate = c.fail-fate.result })
    c.take-node.new.self c.push-in-Fail.new.self
    c.fail-fate.new.queues c.self.invariant c.take-node.ensures.row refl (λ e. failed_ends arn (sym c.fail-fate.ensures.fate ∙ e)) c.take-node.ensures.left
    c.push-in-Fail.ensures
    (subst (All (IsQueueWithin (length s.ended + 1))) (sym c.fail-fate.ensures.queues)
    (within_failed (length s.ended) arn c.in-Fail.failure owed s.queues c.self.invariant.queues_within))

pub returns-in-Retry-clause-still_out : goal.returns-in-Retry-clause-still_out
returns-in-Retry-clause-still_out c = λ n ne out.
    let number_is = ap (λ (o : DutyRow). o.number) c.retry.ensures ∙ ap (λ (o : DutyRow). o.number) c.value_mut.ensures.value ∙ c.take-node.ensures.named in
    back_keeps c.self.inside.pending c.args.claim.number c.retry.new.self.number (record c.retry.new.self { claimed = false }) c.take-node.new.self
    c.insert.new.self number_is c.take-node.ensures.left c.insert.ensures n ne (subst (IsOut n) (sym c.self.view_is) out)

pub returns-in-Retry-clause-not_out : goal.returns-in-Retry-clause-not_out
returns-in-Retry-clause-not_out c = λ out.
    let number_is = ap (λ (o : DutyRow). o.number) c.retry.ensures ∙ ap (λ (o : DutyRow). o.number) c.value_mut.ensures.value ∙ c.take-node.ensures.named in
    back_not_out c.self.inside.pending c.take-node.new.self c.insert.new.self c.args.claim.number c.retry.new.self.number
    (record c.retry.new.self { claimed = false }) refl number_is c.take-node.ensures.left c.insert.ensures out

pub returns-in-Deliver-clause-queues : goal.returns-in-Deliver-clause-queues
returns-in-Deliver-clause-queues c =
    let owed : DutyRow = c.into_value.result in
    let names : List Queue → List (List ℕ) = map (λ (m : Queue). m.name) in
    ap names c.deliver.ensures ∙ names_changed (has_arn owed.duty.target.endpoint) (with_next owed.duty.text None) c.self.inside.queues (λ m. refl)
    ∙ ap (λ (s : Duties). names s.queues) c.self.view_is

pub returns-in-Deliver-clause-still_out : goal.returns-in-Deliver-clause-still_out
returns-in-Deliver-clause-still_out c = λ n ne out.
    gone_keeps c.self.inside.pending c.take-node.new.self c.args.claim.number n c.take-node.ensures.left ne (subst (IsOut n) (sym c.self.view_is) out)

pub returns-in-Deliver-clause-not_out : goal.returns-in-Deliver-clause-not_out
returns-in-Deliver-clause-not_out c = λ out. gone_not_out c.self.inside.pending c.take-node.new.self c.args.claim.number c.take-node.ensures.left out

pub returns-in-Fail-clause-queues : goal.returns-in-Fail-clause-queues
returns-in-Fail-clause-queues c =
    let owed : DutyRow = c.into_value-in-Fail.result in
    let names : List Queue → List (List ℕ) = map (λ (m : Queue). m.name) in
    ap names c.fail-fate.ensures.queues
    ∙ names_failed (dead_letter_queue owed.duty.target (has_dead_letter_queue owed.duty.target c.self.inside.queues)) c.in-Fail.failure
    owed c.self.inside.queues
    ∙ ap (λ (s : Duties). names s.queues) c.self.view_is

pub returns-in-Fail-clause-still_out : goal.returns-in-Fail-clause-still_out
returns-in-Fail-clause-still_out c = λ n ne out.
    gone_keeps c.self.inside.pending c.take-node.new.self c.args.claim.number n c.take-node.ensures.left ne (subst (IsOut n) (sym c.self.view_is) out)

pub returns-in-Fail-clause-not_out : goal.returns-in-Fail-clause-not_out
returns-in-Fail-clause-not_out c = λ out. gone_not_out c.self.inside.pending c.take-node.new.self c.args.claim.number c.take-node.ensures.left out
