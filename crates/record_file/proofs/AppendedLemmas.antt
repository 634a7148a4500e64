-- The calls of an append, from those of its halves.
use Rattle.std.proofs.Common.{ℕ, ◌+◌, min, List, [], ◌∷◌, Result, Ok, Err, inr}
use Rattle.router_disk.specs.declared.disk_call.DiskCall.{DiskCall}
use Rattle.router_disk.specs.declared.fault.Failed.{Failed}
use Rattle.record_file.specs.Append.{IsWritten, AreAppended, last}

pub opens : (old mid new : List DiskCall) (gate : ℕ) (text : List ℕ) (result : Result (Unit {0}) Failed) → IsWritten old (min (gate + 1) last) text (Ok tt) mid →
    IsWritten mid gate (1 ∷ []) result new → AreAppended old gate text result new
opens old mid new gate text (Ok done) is opened = (mid, is, opened)
opens old mid new gate text (Err fault) is opened = inr (mid, is, opened)
