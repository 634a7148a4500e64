use Rattle.std.proofs.Common.{map, take}
use Rattle.memory_disk.specs.HeldDisk.{IsLeft}
use Rattle.memory_disk.specs.Tape.{call_of}
use Rattle.memory_disk.proofs.image.left_by.Given as goal

-- what the calls so far leave
abbrev pub invariant-loop-call : goal.invariant-loop-call
invariant-loop-call l = IsLeft l.first (map call_of (take l.call-index l.calls)) l.left
