use Rattle.std.proofs.Common.{◌≡◌, ◌<◌, drop}
use Rattle.json_text.specs.Objects.{hash_from}
use Rattle.json_text.proofs.object.hash_of.Given as goal

-- hashing what is left is hashing everything
abbrev pub invariant-loop-byte : goal.invariant-loop-byte
invariant-loop-byte l = record { less : l.hash < 128; same : hash_from l.hash (drop l.byte-index l.byte-items) ≡ hash_from 0 l.byte-items }
