use Rattle.std.proofs.Common.{[], ◌∷◌, reverse, sym, ap, ◌∙◌}
use Rattle.std.proofs.lemmas.List.{reverse-append}
use Rattle.replay_run.specs.Replay.{Replay}
use Rattle.replay_run.proofs.replay.Replay.advance.Goals as goal

pub returns-clause-event : goal.returns-clause-event
returns-clause-event c = (
  reverse c.pop.new.self.items,
  ap (λ (r : Replay). r.left) (sym c.self.view_is) ∙ ap reverse c.in-Some.ensures.items ∙ reverse-append c.pop.new.self.items (c.in-Some.event ∷ []),
)
