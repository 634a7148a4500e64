use Rattle.record_file.proofs.StateLemmas.{settle_opens}
use Rattle.record_file.proofs.kind.settle.Goals as goal

pub returns-clause-opened : goal.returns-clause-opened
returns-clause-opened g c =
    settle_opens (g.D.Disk.calls c.args.disk.now) (g.D.Disk.calls c.sync.new.self) c.sync.result c.requires c.sync.ensures.call
