use Rattle.std.proofs.Common.{[], ◌∷◌, ◌++◌, refl, ap, ◌∙◌}
use Rattle.router_requests.specs.declared.batch.Entry.TheVariants.{ReplayStepped}
use Rattle.router_core.proofs.ReplayingLemmas.{one_step}
use Rattle.router_core.proofs.replaying.ready.Goals as goal

pub returns : goal.returns
returns c =
    one_step c.args.moment c.args.step c.new.result (record { moment = c.args.moment; entries = c.push.new.self }) c.in_ok-part.part c.new.ensures.batch refl
    (c.in_ok-push.ensures.items ∙ ap (λ es. es ++ ReplayStepped c.args.step ∷ []) c.in_ok-entries.ensures.items)
    (c.new.ensures.parts ∙ c.in_ok-push_back.ensures.items ∙ ap (λ ps. ps ++ c.in_ok-part.part ∷ []) c.in_ok-parts.ensures.items) c.in_ok-part.ensures
