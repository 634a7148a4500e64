use Rattle.memory_disk.proofs.HeldDiskLemmas.{after_write}
use Rattle.memory_disk.proofs.disk.MemoryDiskDisk.write_at.Goals as goal

pub invariant_of-self : goal.invariant_of-self
invariant_of-self c =
    let d = c.self.inside in
    after_write d.first.items d.bytes.items d.tape c.write_at.new.self c.self.invariant c.args.at c.args.bytes.now c.write_over-answer.new.bytes.items
    c.write_over-answer.result c.write_at.ensures c.write_over-answer.ensures.ok
