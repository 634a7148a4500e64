use Rattle.std.proofs.Common.{map, refl, ap, ◌∙◌}
use Rattle.delivery_queues.specs.Queues.{Queue, is_named, without_through}
use Rattle.delivery_duties.specs.Duties.{Duties}
use Rattle.delivery_queues.proofs.PlaceLemmas.{names_changed}
use Rattle.delivery_duties.proofs.StepLemmas.{sound_deleted}
use Rattle.delivery_duties.proofs.duties.Duties.delete_through.Goals as goal

pub invariant_of-self : goal.invariant_of-self
invariant_of-self c = sound_deleted c.args.queue.now c.args.through c.delete_through.new.self c.self.invariant c.delete_through.ensures.left

pub returns-clause-queues : goal.returns-clause-queues
returns-clause-queues c =
    ap (map (λ (m : Queue). m.name)) c.delete_through.ensures.left
    ∙ names_changed (is_named c.args.queue.now) (without_through c.args.through) c.self.inside.queues (λ m. refl)
    ∙ ap (λ (s : Duties). map (λ (m : Queue). m.name) s.queues) c.self.view_is
