use Rattle.memory_disk.proofs.HeldDiskLemmas.{after_sync}
use Rattle.memory_disk.proofs.disk.MemoryDiskDisk.sync.Goals as goal

pub invariant_of-self : goal.invariant_of-self
invariant_of-self c =
    let d = c.self.inside in
    after_sync d.first.items d.bytes.items d.tape c.sync.new.self c.self.invariant c.if-fails.answer c.sync.ensures
