use Rattle.std.proofs.Common.{◌≡◌, take, flat_map}
use Rattle.json_text.specs.Compact.{escape}
use Rattle.input_transform.proofs.escape.plain_len.Given as goal

abbrev pub invariant-loop-i : goal.invariant-loop-i
invariant-loop-i l = flat_map escape (take l.i l.bytes) ≡ take l.i l.bytes
