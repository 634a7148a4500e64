use Rattle.std.proofs.Common.{◌++◌, arith}
use Rattle.event_text.proofs.TextLemmas.{texts_joined}
use Rattle.event_text.proofs.string.after_string.Goals as goal

pub pieces-preserved : goal.pieces-preserved
pieces-preserved c =
    let so_far = c.pieces.invariant.text in
    let next = c.in_ok-left.ensures.text in
    record {
      text = (so_far.0 ++ next.0, texts_joined so_far.0 next.0 c.args.bytes.now c.pieces.left.now c.in_ok-left.left.now so_far.1 next.1);
      within = omega (arith, c.in_ok-left.ensures.shorter, c.pieces.invariant.within);
    }
