use Rattle.memory_disk.proofs.HeldDiskLemmas.{after_size}
use Rattle.memory_disk.proofs.disk.MemoryDiskDisk.size.Goals as goal

pub invariant_of-self : goal.invariant_of-self
invariant_of-self c =
    let d = c.self.inside in
    after_size d.first.items d.bytes.items d.tape c.size.new.self c.self.invariant c.length_of-answer.result c.deref.result.now c.size.ensures
    c.deref.ensures.value c.length_of-answer.ensures.ok
