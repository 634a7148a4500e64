use Rattle.std.proofs.Common.{List, sym, ap, subst, ◌∙◌}
use Rattle.name_rows.specs.Rows.{AreSorted, named}
use Rattle.replay_run.specs.declared.row.ReplayRow.{ReplayRow}
use Rattle.replay_run.specs.Replays.{found, names_of, number_name, numbered_if}
use Rattle.replay_run.proofs.ReplaysLemmas.{all_names_sorted, number_for}
use Rattle.replay_run.proofs.replays.Replays.names.Goals as goal

pub returns-clause-names : goal.returns-clause-names
returns-clause-names c = c.iter.ensures ∙ c.self.invariant.2.named ∙ ap names_of c.self.view_is

pub returns-clause-sorted : goal.returns-clause-sorted
returns-clause-sorted c =
    let names = c.iter.ensures ∙ c.self.invariant.2.named ∙ ap names_of c.self.view_is in
    subst (AreSorted number_name) (sym names) (all_names_sorted c.args.self.now)

pub returns-clause-each : goal.returns-clause-each
returns-clause-each c = λ name.
    ap (named number_name name) c.iter.ensures
    ∙ number_for name c.self.inside.all c.self.inside.running.items c.self.inside.names c.self.invariant.2
    ∙ ap (λ (all : List ReplayRow). numbered_if (found name all)) c.self.view_is
