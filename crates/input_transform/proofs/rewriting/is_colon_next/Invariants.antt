use Rattle.std.proofs.Common.{◌≡◌, drop}
use Rattle.input_transform.specs.Letters.{colon_next}
use Rattle.input_transform.proofs.rewriting.is_colon_next.Given as goal

abbrev pub invariant-loop-byte : goal.invariant-loop-byte
invariant-loop-byte l = colon_next (drop l.byte-index l.bytes) ≡ colon_next l.bytes
