use Rattle.std.proofs.Common.{sym, ap, ◌∙◌}
use Rattle.leaf_match.specs.Wild.{literal_front}
use Rattle.leaf_match.proofs.WildLemmas.{literal_front-letters}
use Rattle.leaf_match.proofs.wildcard.Wild.literal_front.Goals as goal

pub returns : goal.returns
returns c =
    c.deref.ensures.value ∙ sym (literal_front-letters c.self.inside.front.items c.self.inside.rest.items c.self.invariant) ∙ ap literal_front c.self.view_is
