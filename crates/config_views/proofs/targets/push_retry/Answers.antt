use Rattle.std.proofs.Common.{◌≡◌, ◌++◌, ◌∷◌, [], codes, OnOk, subst}
use Rattle.json_text.specs.View.{pairs_of}
use Rattle.config_views.proofs.targets.push_retry.Goals as goal

pub returns-in_ok-retry_json-in-Some : goal.returns-in_ok-retry_json-in-Some
returns-in_ok-retry_json-in-Some c =
    rw c.in-Some.is (subst (λ shown. OnOk c.push_member.result
    (pairs_of c.push_member.new.members.items ≡ pairs_of c.args.members.now.items ++ (codes "RetryPolicy", shown) ∷ []))
    c.in_ok-retry_json-in-Some.ensures c.push_member.ensures.pushed)
