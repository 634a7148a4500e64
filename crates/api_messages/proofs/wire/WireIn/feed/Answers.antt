use Rattle.std.proofs.Common.{arith, length-append}
use Rattle.std.proofs.lemmas.List.{drop-append-le}
use Rattle.api_messages.proofs.MessageLemmas.{refused_stays}
use Rattle.api_messages.proofs.wire.WireIn.feed.Goals as goal

pub invariant_of-self : goal.invariant_of-self
invariant_of-self c = rw c.in_err-extend_from_slice.ensures.items c.self.invariant

pub invariant_of-self-2 : goal.invariant_of-self-2
invariant_of-self-2 c =
    let items = c.self.inside.buffer.items in
    let start = c.self.inside.start in
    rw c.in_ok-extend_from_slice.ensures.items (
      omega (arith, c.self.invariant.0, length-append items c.args.piece.now),
      λ why refused.
          rw (drop-append-le start items c.args.piece.now c.self.invariant.0) (refused_stays _ _ why (c.self.invariant.1 why refused)),
    )
