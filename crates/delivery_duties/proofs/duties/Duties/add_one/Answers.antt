use Rattle.std.proofs.Common.{◌≡◌, ℕ, ◌+◌, ◌<◌, ◌^◌, None, false, List, Option, length, sym, subst, refl, ap, ◌∙◌}
use Rattle.std.specs.Prelude.{All}
use Rattle.key_tree.specs.Entries.{value_at, placed}
use Rattle.delivery_duties.specs.declared.duty.NewDuty.{NewDuty}
use Rattle.delivery_duties.specs.declared.duty.DutyRow.{DutyRow}
use Rattle.delivery_duties.specs.Retry.{dead_letter_queue, failed_fate, too_long}
use Rattle.delivery_duties.specs.Duties.{Duties, IsOut, dead_lettered, added_one, has_dead_letter_queue}
use Rattle.delivery_duties.specs.Sound.{IsQueueWithin}
use Rattle.delivery_duties.proofs.SoundLemmas.{sound_never, sound_begun, unused}
use Rattle.delivery_duties.proofs.StepLemmas.{within_failed, failed_ends, added_never}
use Rattle.delivery_duties.proofs.AddLemmas.{begun_keeps}
use Rattle.delivery_duties.proofs.duties.Duties.add_one.Goals as goal

pub invariant_of-self : goal.invariant_of-self
invariant_of-self c =
    let s = c.self.inside in
    let owed : DutyRow = c.into_value.result in
    let arn = dead_letter_queue owed.duty.target (has_dead_letter_queue owed.duty.target s.queues) in
    sound_never (record { number = s.created + 1; fate = c.fail-fate.result }) c.push.new.self c.fail-fate.new.queues c.self.invariant
    (subst (λ (d : Duties). d.created + 1 < 2 ^ 63) (sym c.self.view_is) c.requires.room) refl
    (λ e. failed_ends arn (sym c.fail-fate.ensures.fate ∙ e)) c.push.ensures
    (subst (All (IsQueueWithin (length s.ended + 1))) (sym c.fail-fate.ensures.queues)
    (within_failed (length s.ended) arn too_long owed s.queues c.self.invariant.queues_within))

pub insert-requires-clause-new_number : goal.insert-requires-clause-new_number
insert-requires-clause-new_number c =
    subst (λ k. value_at k c.self.inside.pending ≡ None) (sym (ap (λ (o : DutyRow). o.number) c.begin.ensures)) (unused c.self.invariant)

pub invariant_of-self-else-row : goal.invariant_of-self-else-row
invariant_of-self-else-row c =
    let s = c.self.inside in
    let row : DutyRow = record c.begin.new.self { claimed = false } in
    let number_is : c.begin.new.self.number ≡ s.created + 1 = ap (λ (o : DutyRow). o.number) c.begin.ensures in
    sound_begun row c.insert.new.self c.self.invariant
    (subst (λ (d : Duties). d.created + 1 < 2 ^ 63) (sym c.self.view_is) c.requires.room) number_is
    (subst (λ k. c.insert.new.self ≡ placed (k, row) s.pending) number_is c.insert.ensures)

pub returns-then-row-clause-added : goal.returns-then-row-clause-added
returns-then-row-clause-added c =
    let s = c.self.inside in
    let view : Duties = record { pending = s.pending; ended = s.ended; queues = s.queues; created = s.created } in
    let duty : NewDuty = c.args.node.duty in
    let begun_is : c.begin.new.self.duty ≡ duty = ap (λ (o : DutyRow). o.duty) c.begin.ensures ∙ ap (λ (o : DutyRow). o.duty) c.value_mut.ensures.value in
    let owed_is : c.into_value.result.duty ≡ duty = ap (λ (o : DutyRow). o.duty) c.into_value.ensures ∙ begun_is in
    let first_is : c.row.result.now.duty ≡ duty = ap (λ (o : DutyRow). o.duty) (c.row.ensures ∙ c.value.ensures) ∙ begun_is in
    let long = sym (ap (λ (d : NewDuty). d.too_long) first_is) ∙ c.if-row.true in
    let arn_of : NewDuty → Option (List ℕ) = λ d. dead_letter_queue d.target (has_dead_letter_queue d.target s.queues) in
    let arn_is : arn_of c.into_value.result.duty ≡ arn_of duty = ap arn_of owed_is in
    added_never view duty c.args.moment c.into_value.result c.fail-fate.result c.push.new.self c.fail-fate.new.queues c.self.invariant long owed_is
    (c.fail-fate.ensures.fate ∙ ap failed_fate arn_is) c.push.ensures
    (c.fail-fate.ensures.queues ∙ ap (λ a. dead_lettered a too_long c.into_value.result s.queues) arn_is)
    ∙ ap (added_one duty c.args.moment) c.self.view_is

pub returns-else-row-clause-still_out : goal.returns-else-row-clause-still_out
returns-else-row-clause-still_out c = λ n out.
    let row : DutyRow = record c.begin.new.self { claimed = false } in
    begun_keeps c.begin.new.self.number row c.insert.new.self c.self.invariant (ap (λ (o : DutyRow). o.number) c.begin.ensures) c.insert.ensures
    n (subst (IsOut n) (sym c.self.view_is) out)
