use Rattle.std.proofs.Common.{◌≡◌, ◌++◌, map, take}
use Rattle.router_disk.proofs.heard.add.Given as goal

-- the bytes so far were added
abbrev pub invariant-loop-byte : goal.invariant-loop-byte
invariant-loop-byte l =
    map (λ pair. pair.0) l.log.items ≡ map (λ pair. pair.0) l.fn.log.items ++ take l.byte-index l.bytes
