use Rattle.std.proofs.Common.{subst, sym, refl}
use Rattle.leaf_match.specs.Wild.{IsWildcard}
use Rattle.leaf_match.proofs.WildLemmas.{Reads, Reads-more, Reads-all, Reads-only}
use Rattle.leaf_match.proofs.wildcard.Wild.read.Goals as goal

pub loop-piece-preserved : goal.loop-piece-preserved
loop-piece-preserved c =
    subst (Reads c.args.text.now c.in-Some.rest.now) (sym c.in_ok-push.ensures.pushed)
    (Reads-more c.args.text.now c.loop-piece.unread.now c.in-Some.rest.now c.loop-piece.wild c.in-Some.piece c.in-Some.ensures c.loop-piece.invariant)

pub returns-clause-pieces : goal.returns-clause-pieces
returns-clause-pieces c =
    let wild : IsWildcard c.args.text.now = subst IsWildcard c.as_bytes.ensures.value (c.if-not-is_wildcard.ensures.0 refl) in
    Reads-all c.args.text.now c.loop-piece.unread.now c.loop-piece.wild c.in_default.ensures wild c.loop-piece.invariant

pub returns-clause-only : goal.returns-clause-only
returns-clause-only c =
    Reads-only c.args.text.now c.loop-piece.unread.now c.loop-piece.wild c.in_default.ensures c.loop-piece.invariant
