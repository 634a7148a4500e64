use Rattle.std.proofs.Common.{◌≡◌, ◌++◌, ◌∷◌, ◌∙◌, [], OnOk, codes, ap, subst}
use Rattle.json_text.specs.Tree.{items_of, list}
use Rattle.json_text.specs.View.{pairs_of}
use Rattle.json_text.proofs.ViewLemmas.{tree_of_list}
use Rattle.config_views.specs.Replays.{arns_of}
use Rattle.config_views.proofs.replays.push_filter.Goals as goal

pub returns-in_ok-arns-in-Some : goal.returns-in_ok-arns-in-Some
returns-in_ok-arns-in-Some c =
    let bus = c.args.bus.now in
    let tree = tree_of_list c.in_ok-arns-in-Some.arns ∙ ap (λ ts. list (items_of ts)) (c.in_ok-arns-in-Some.ensures ∙ ap (arns_of bus) c.names.ensures) in
    rw c.in-Some.is
    (subst
    (λ t. OnOk c.push_member.result (pairs_of c.push_member.new.members.items ≡ pairs_of c.args.members.now.items ++ (codes "FilterArns", t) ∷ []))
    tree c.push_member.ensures.pushed)
