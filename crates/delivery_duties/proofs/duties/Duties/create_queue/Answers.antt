use Rattle.delivery_duties.proofs.StepLemmas.{sound_created}
use Rattle.delivery_duties.proofs.duties.Duties.create_queue.Goals as goal

pub invariant_of-self : goal.invariant_of-self
invariant_of-self c = sound_created c.into_queue.result c.args.queue c.create.new.self c.self.invariant c.into_queue.ensures c.create.ensures
