use Rattle.std.proofs.Common.{◌≡◌, ◌++◌, ◌∷◌, [], codes, OnOk, subst}
use Rattle.json_text.specs.View.{pairs_of}
use Rattle.config_views.proofs.inputs.push_given.Goals as goal

pub returns-in_ok-shown-in-InputTransformer : goal.returns-in_ok-shown-in-InputTransformer
returns-in_ok-shown-in-InputTransformer c =
    rw c.in-InputTransformer.is (subst (λ shown. OnOk c.push_member.result
    (pairs_of c.push_member.new.members.items ≡ pairs_of c.args.members.now.items ++ (codes "InputTransformer", shown) ∷ []))
    c.in_ok-shown-in-InputTransformer.ensures c.push_member.ensures.pushed)
