use Rattle.std.proofs.{Common.◌∙◌, Common.sym, Common.ap, Common.arith, Common.◌++◌, Common.◌∷◌, Common.[], Common.length, lemmas.List.length-map}
use Rattle.json_text.specs.{View.tree_of, View.pairs_of, Objects.slot_from, Tree.null}
use Rattle.json_text.proofs.KeptLemmas.{slot_from-pairs, slot_from-below}
use Rattle.json_text.proofs.object.ObjectBuilder.reserve.Goals as goal

pub returns-in-Some-clause-place : goal.returns-in-Some-clause-place
returns-in-Some-clause-place c =
    let slot = slot_from-pairs 0 c.args.key c.args.self.now.members.items ∙ ap (λ k. slot_from 0 k c.args.self.now.members.items) (sym c.as_str-2.ensures)
    ∙ sym c.in_ok-slot.ensures.slot ∙ c.in-Some.is in (ap (λ ms. pairs_of ms.items) c.in_ok-slot.ensures.same, slot)

pub returns-in-Some-clause-within : goal.returns-in-Some-clause-within
returns-in-Some-clause-within c = let below = slot_from-below 0 c.in-Some.slot c.args.key c.args.self.now.members.items
    (ap (λ k. slot_from 0 k c.args.self.now.members.items) (sym c.as_str-2.ensures) ∙ sym c.in_ok-slot.ensures.slot ∙ c.in-Some.is) in
    omega (arith, ap (λ ms. length ms.items) c.in_ok-slot.ensures.same, below)

pub returns-in_ok-push-in-None-clause-place : goal.returns-in_ok-push-in-None-clause-place
returns-in_ok-push-in-None-clause-place c =
    let new = c.in_ok-push-in-None.ensures.pushed ∙ ap (λ ms. pairs_of ms.items ++ (c.args.key, null) ∷ []) c.in_ok-slot.ensures.same in
    let lacks = slot_from-pairs 0 c.args.key c.args.self.now.members.items ∙ ap (λ k. slot_from 0 k c.args.self.now.members.items) (sym c.as_str-2.ensures)
    ∙ sym c.in_ok-slot.ensures.slot ∙ c.in-None.is in let last = c.in_ok-push-in-None.ensures.place ∙ ap (λ ms. length ms.items) c.in_ok-slot.ensures.same
    ∙ sym (length-map c.args.self.now.members.items (λ m. (m.0, tree_of m.1))) in (new, lacks, last)
