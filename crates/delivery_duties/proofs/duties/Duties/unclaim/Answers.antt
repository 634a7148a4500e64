use Rattle.std.proofs.Common.{false, sym, subst}
use Rattle.delivery_duties.specs.Duties.{IsOut}
use Rattle.delivery_duties.specs.declared.duty.DutyRow.{DutyRow}
use Rattle.delivery_duties.proofs.StepLemmas.{taken_free, sound_back, back_keeps}
use Rattle.delivery_duties.proofs.duties.Duties.unclaim.Goals as goal

pub insert-requires-clause-new_number : goal.insert-requires-clause-new_number
insert-requires-clause-new_number c =
    taken_free c.self.inside.pending
    c.args.claim.number c.take-node.result.number c.take-node.new.self c.take-node.ensures.named c.take-node.ensures.left

pub invariant_of-self : goal.invariant_of-self
invariant_of-self c =
    let node : DutyRow = c.take-node.result in
    sound_back c.args.claim.number node.number node (record node { claimed = false }) c.take-node.new.self c.insert.new.self c.self.invariant
    c.take-node.ensures.row c.take-node.ensures.named c.take-node.ensures.named c.take-node.ensures.left c.insert.ensures

pub returns-clause-still_out : goal.returns-clause-still_out
returns-clause-still_out c = λ n ne out.
    let node : DutyRow = c.take-node.result in
    back_keeps c.self.inside.pending
    c.args.claim.number node.number (record node { claimed = false }) c.take-node.new.self c.insert.new.self
    c.take-node.ensures.named c.take-node.ensures.left c.insert.ensures n ne (subst (IsOut n) (sym c.self.view_is) out)
