use Rattle.std.proofs.Common.{refl}
use Rattle.rule_table.proofs.LawLemmas.{put_matching, removed_matching, policy_matching}
use Rattle.rule_table.proofs.laws.matching_stays.Goals as goal

pub returns : goal.returns
returns c = record { targets = put_matching; removed = removed_matching; policy = policy_matching; queue = λ name set. refl; no_queue = λ name set. refl }
