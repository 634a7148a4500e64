use Rattle.delivery_duties.proofs.StepLemmas.{sound_forgotten}
use Rattle.delivery_duties.proofs.duties.Duties.forget.Goals as goal

pub invariant_of-self : goal.invariant_of-self
invariant_of-self c = sound_forgotten c.args.queue.now c.remove.new.self c.self.invariant c.remove.ensures.left
