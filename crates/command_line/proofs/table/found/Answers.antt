use Rattle.std.proofs.Common.{◌∙◌, ap, subst, map, string_bytes}
use Rattle.std.proofs.lemmas.Result.{IfOk-weaker}
use Rattle.clap.specs.Faults.{fault_of, is_simple_and_free}
use Rattle.clap.specs.Kinds.{FailsBy}
use Rattle.clap.specs.Simple.{App, is_simple, subcommand_of}
use Rattle.command_line.proofs.TableLemmas.{simple, simple_alone}
use Rattle.command_line.proofs.table.found.Goals as goal

pub returns-clause-kinds : goal.returns-clause-kinds
returns-clause-kinds c =
    subst (λ (a : App). FailsBy (fault_of a (map string_bytes c.args.words.now)) c.try_get_matches_from.result) c.in_ok-command.ensures
    (c.try_get_matches_from.ensures.kinds (ap is_simple_and_free c.in_ok-command.ensures ∙ simple))

pub returns-clause-matches : goal.returns-clause-matches
returns-clause-matches c =
    IfOk-weaker c.try_get_matches_from.result _ _
    (λ m h. (h (ap is_simple c.in_ok-command.ensures ∙ simple_alone)).1
    ∙ ap (λ (a : App). subcommand_of a (map string_bytes c.args.words.now)) c.in_ok-command.ensures)
    c.try_get_matches_from.ensures.matches
