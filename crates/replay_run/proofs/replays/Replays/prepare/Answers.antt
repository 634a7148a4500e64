use Rattle.std.proofs.Common.{◌≡◌, ℕ, ◌+◌, ◌++◌, ◌∷◌, [], sym, ap, ◌∙◌, arith}
use Rattle.replay_run.specs.declared.row.ReplayRow.{ReplayRow}
use Rattle.replay_run.specs.Replays.{first_row, names_of}
use Rattle.replay_run.proofs.ReplaysLemmas.{first_kept, names_prepared, next_is}
use Rattle.replay_run.proofs.replays.Replays.prepare.Goals as goal

pub overflow_add-number : goal.overflow_add-number
overflow_add-number c = omega (arith, c.requires, c.self.invariant.1, next_is c.self.inside.all c.args.self.now c.self.view_is)

pub returns-clause-row : goal.returns-clause-row
returns-clause-row c =
    let counted = ap (λ (n : ℕ). n + 1) c.self.invariant.1 ∙ sym (next_is c.self.inside.all c.args.self.now c.self.view_is) in
    c.in_ok-node.ensures ∙ c.in_ok-row.ensures ∙ ap (first_row c.args.archive.now c.args.settings) counted

pub returns-clause-names : goal.returns-clause-names
returns-clause-names c =
    let all = c.args.self.now in
    let number = c.self.inside.count + 1 in
    let row : ReplayRow = first_row c.args.archive.now c.args.settings number in
    let kept = first_kept c.args.archive.now c.args.settings number in
    let is : c.in_ok-node.node ≡ row = c.in_ok-node.ensures ∙ c.in_ok-row.ensures in
    names_prepared all c.self.inside.names c.in_ok-names.names row c.in_ok-name.name number c.args.settings
    (c.self.invariant.2.named ∙ ap names_of c.self.view_is) c.in_ok-names.ensures kept.0 kept.1 (c.in_ok-name.ensures ∙ c.as_str.ensures)
    ∙ ap (λ (r : ReplayRow). names_of (all ++ r ∷ [])) (sym is)
