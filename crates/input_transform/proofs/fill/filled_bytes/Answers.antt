use Rattle.std.proofs.Common.{arith}
use Rattle.input_transform.specs.Filling.{scene_of}
use Rattle.input_transform.proofs.FillLemmas.{passes}
use Rattle.input_transform.proofs.fill.filled_bytes.Goals as goal

pub returns-then-len-gt-MOST_TEXT : goal.returns-then-len-gt-MOST_TEXT
returns-then-len-gt-MOST_TEXT c paths f e =
    let long = c.if-len-gt-MOST_TEXT.true in let len = c.len.ensures in
    passes (scene_of c.args.filling.now) paths c.args.pieces.now c.loop-piece.piece-index c.piece-item.result c.loop-piece.out c.push_piece.new.out
    c.loop-piece-test.true c.piece-item.is (c.loop-piece.invariant.written paths f) (c.in-Ok.ensures paths f) (omega (arith, long, len))
