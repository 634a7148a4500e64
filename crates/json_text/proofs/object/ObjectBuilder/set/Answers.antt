use Rattle.json_text.proofs.KeptLemmas.{HasHashes-set, IsIndex-set, with_value-set}
use Rattle.json_text.proofs.object.ObjectBuilder.set.Goals as goal

pub invariant_of-self : goal.invariant_of-self
invariant_of-self c = record {
  hashed = HasHashes-set c.args.self.now.hashes c.args.value c.args.slot c.args.self.now.members.items c.index_mut.result.now c.requires
      c.index_mut.ensures.value c.args.self.now.hashed;
  indexed = IsIndex-set c.args.self.now.slots c.args.value c.args.slot c.args.self.now.members.items c.index_mut.result.now c.requires c.index_mut.ensures.value
      c.args.self.now.indexed;
}

pub returns : goal.returns
returns c = with_value-set c.args.value c.args.slot c.args.self.now.members.items c.index_mut.result.now c.requires c.index_mut.ensures.value
