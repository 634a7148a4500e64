use Rattle.std.proofs.Common.{◌≡◌, true, sym, subst, ap, ◌∙◌}
use Rattle.std.specs.Prelude.{All}
use Rattle.std.proofs.lemmas.List.Elements.{All-push}
use Rattle.delivery_duties.specs.declared.duty.DutyRow.{DutyRow}
use Rattle.delivery_duties.proofs.new_duties.NewDuties.push.Goals as goal

pub invariant_of-self-2 : goal.invariant_of-self-2
invariant_of-self-2 c =
    let P : DutyRow → Type 0 = λ row. row.claimed ≡ true in
    subst (All P) (sym c.in_ok-push_back.ensures.items)
    (All-push P c.self.inside.rows.items c.in_ok-node.node c.self.invariant (ap (λ (o : DutyRow). o.claimed) c.in_ok-node.ensures ∙ c.in_ok-owed.ensures.1))
