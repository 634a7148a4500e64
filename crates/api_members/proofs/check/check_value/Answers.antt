use Rattle.json_text.specs.View.{tree_of}
use Rattle.api_members.proofs.ValueLemmas.{arn_checked}
use Rattle.api_members.proofs.check.check_value.Goals as goal

pub returns-in_ok-is_target_arn-in-TargetArn : goal.returns-in_ok-is_target_arn-in-TargetArn
returns-in_ok-is_target_arn-in-TargetArn c =
    rw c.in-TargetArn.is (arn_checked c.valid_if-in-TargetArn.result c.args.member (tree_of c.args.value.now)
    c.in_ok-is_target_arn-in-TargetArn.field-0 c.in_ok-is_target_arn-in-TargetArn.ensures c.valid_if-in-TargetArn.ensures)
