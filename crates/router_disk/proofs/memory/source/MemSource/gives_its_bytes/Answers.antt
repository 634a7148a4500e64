use Rattle.std.proofs.Common.{subst}
use Rattle.router_disk.specs.Memory.{GivesItsBytes}
use Rattle.router_disk.proofs.SourceLemmas as lemma
use Rattle.router_disk.proofs.memory.source.MemSource.gives_its_bytes.Goals as goal

pub returns : goal.returns
returns c =
    let held = c.self.inside in
    subst GivesItsBytes c.self.view_is
    (lemma.gives_its_bytes held.bytes.items held.gave held.place held.most c.self.invariant.2 c.self.invariant.3)
