use Rattle.std.proofs.Common.{◌≢◌, []}
use Rattle.std.proofs.lemmas.Bool.{false≢true}
use Rattle.leaf_match.proofs.WildLemmas.{not_empty, IsWildcard-after, IsWildcard-before, not_IsWildcard}
use Rattle.leaf_match.proofs.wildcard.is_wildcard.Goals as goal

pub returns-in_default : goal.returns-in_default
returns-in_default c =
    let some : c.loop-unread.unread.now ≢ [] = not_empty c.loop-unread.unread.now c.loop-unread-test.ensures in
    let no = not_IsWildcard c.loop-unread.unread.now some c.in_default.ensures in
    (λ e. absurd (false≢true e), λ w. absurd (no (c.loop-unread.invariant.goes w)))

pub loop-unread-preserved : goal.loop-unread-preserved
loop-unread-preserved c =
    let unread = c.loop-unread.unread.now in
    record {
      goes = λ w. IsWildcard-after c.in-Some._piece unread c.in-Some.rest.now c.in-Some.ensures (c.loop-unread.invariant.goes w);
      comes = λ w. c.loop-unread.invariant.comes (IsWildcard-before c.in-Some._piece unread c.in-Some.rest.now c.in-Some.ensures w);
    }
