use Rattle.std.proofs.Common.{◌≡◌, ◌<◌, drop}
use Rattle.event_text.specs.Written.{hash_from}
use Rattle.event_text.proofs.key.hash_of.Given as goal

-- hashing what is left is hashing everything
abbrev pub invariant-loop-byte : goal.invariant-loop-byte
invariant-loop-byte l = record { less : l.hash < 4294967296; same : hash_from l.hash (drop l.byte-index l.bytes) ≡ hash_from 0 l.bytes }
