use Rattle.std.proofs.Common.{ap, ◌∙◌}
use Rattle.json_text.specs.View.{tree_of}
use Rattle.json_text.proofs.ViewLemmas.{tree_of_text}
use Rattle.rule_targets.specs.Checks as checks
use Rattle.api_members.proofs.ValueLemmas.{same_truth}
use Rattle.api_members.proofs.value.is_target_arn.Goals as goal

pub returns-in-Str : goal.returns-in-Str
returns-in-Str c =
    rw (ap tree_of c.in-Str.is ∙ tree_of_text c.in-Str.text, ← c.as_str.ensures)
    (same_truth c.is_target_arn.result (checks.is_target_arn c.as_str.result.now) c.is_target_arn.ensures)
