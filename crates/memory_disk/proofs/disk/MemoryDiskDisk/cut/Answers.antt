use Rattle.memory_disk.proofs.HeldDiskLemmas.{after_cut}
use Rattle.memory_disk.proofs.disk.MemoryDiskDisk.cut.Goals as goal

pub invariant_of-self : goal.invariant_of-self
invariant_of-self c =
    let d = c.self.inside in
    after_cut d.first.items d.bytes.items d.tape c.cut.new.self c.self.invariant c.args.len c.shorten-answer.new.bytes.items c.shorten-answer.result
    c.cut.ensures c.shorten-answer.ensures.ok
