use Rattle.memory_disk.proofs.HeldDiskLemmas.{after_read}
use Rattle.memory_disk.proofs.disk.MemoryDiskDisk.read.Goals as goal

pub invariant_of-self : goal.invariant_of-self
invariant_of-self c =
    let d = c.self.inside in
    after_read d.first.items d.bytes.items d.tape c.read.new.self c.self.invariant c.args.at c.copy_out-answer.new.into c.deref.result.now
    c.copy_out-answer.result c.read.ensures c.deref.ensures.value c.copy_out-answer.ensures.ok
