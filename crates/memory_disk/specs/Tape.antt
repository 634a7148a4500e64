-- What a disk in memory keeps of its calls.
use Rattle.router_disk.specs.declared.disk_call.DiskCall.{DiskCall}
use Rattle.router_disk.specs.declared.disk_call.DiskCall.TheVariants as calls
use Rattle.memory_disk.specs.declared.tape.Kept.{Kept}
use Rattle.memory_disk.specs.declared.tape.Kept.TheVariants.{Size, Read, Write, Cut, Sync}

-- the call that is kept
abbrev pub call_of : Kept → DiskCall
call_of (Size answer) = calls.Size answer
call_of (Read at bytes answer) = calls.Read at bytes.items answer
call_of (Write at bytes answer) = calls.Write at bytes.items answer
call_of (Cut len answer) = calls.Cut len answer
call_of (Sync answer) = calls.Sync answer
