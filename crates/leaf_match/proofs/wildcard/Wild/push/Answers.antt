use Rattle.std.proofs.Common.{◌≡◌, ◌∙◌, ◌==◌, false, length, ap, sym}
use Rattle.leaf_match.proofs.WildLemmas.{not_empty, literal_front-after, literal_front-no_letter}
use Rattle.leaf_match.proofs.wildcard.Wild.push.Goals.{in_default-via-in-Letter+else-is_empty, in_default-via-in_default}
use Rattle.leaf_match.proofs.wildcard.Wild.push.Goals as goal

pub invariant_of-self-in-Continue-branch-2 : goal.invariant_of-self-in-Continue-branch-2
invariant_of-self-in-Continue-branch-2 c =
    let rest = c.self.inside.rest in
    rw c.in_ok-push-in_default.ensures.items (elim c.in_default.branch [
      | in_default-via-in-Letter+else-is_empty w ↦
          let some : false ≡ (length rest.items == 0) = w.if-is_empty.ensures ∙ ap (λ n. n == 0) rest.ok.0 in
          literal_front-after rest.items c.in_default.piece (not_empty rest.items some) c.self.invariant
      | in_default-via-in_default w ↦
          literal_front-no_letter rest.items c.in_default.piece (λ byte e. w.in_default.not-Letter byte (sym w.piece-is ∙ e)) c.self.invariant
    ])
