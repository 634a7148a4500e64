use Rattle.std.proofs.Common.{rules, ◌≡◌, ◌==◌, false, not, sym, ap, ◌∙◌}
use Rattle.std.proofs.lemmas.Fn.{filter_same}
use Rattle.replay_run.specs.Replays.{numbers_after}
use Rattle.replay_run.proofs.replays.note_change.Goals as goal

pub returns-then-not-runs-clause-numbers : goal.returns-then-not-runs-clause-numbers
returns-then-not-runs-clause-numbers c =
    let ended : c.args.runs ≡ false = search rules in
    filter_same _ (λ other. not (other == c.args.number)) _ (λ x b f k. search rules) c.args.running.now.items c.retain.new.self.items c.retain.ensures.filtered
    ∙ sym (ap (λ b. numbers_after b c.args.number c.args.running.now.items) ended)
