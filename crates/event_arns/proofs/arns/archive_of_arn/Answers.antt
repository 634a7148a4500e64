use Rattle.std.proofs.Common.{sym, ◌∙◌}
use Rattle.event_shape.specs.Names.{is_archive_name, archive_arn}
use Rattle.event_arns.proofs.ArnLemmas.{not_valid, archive_arn_once}
use Rattle.event_arns.proofs.arns.archive_of_arn.Goals as goal

pub returns-else-is_archive_name : goal.returns-else-is_archive_name
returns-else-is_archive_name c =
    not_valid is_archive_name archive_arn archive_arn_once c.args.arn.now c.in-Some.name.now c.in-Some.ensures (sym c.is_archive_name.ensures ∙ c.if-is_archive_name.false)

pub returns-in-None : goal.returns-in-None
returns-in-None c = λ archive is. c.in-None.ensures archive is.1
