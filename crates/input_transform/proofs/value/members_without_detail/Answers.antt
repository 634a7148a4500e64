use Rattle.std.proofs.Common.{◌++◌, ◌∷◌, [], ◌∙◌, ap, codes, cond}
use Rattle.std.specs.Str.{bytes_eq}
use Rattle.json_text.specs.View.{tree_of, pairs_of}
use Rattle.input_transform.proofs.SceneLemmas.{kept_step, all_kept}
use Rattle.input_transform.proofs.value.members_without_detail.Goals as goal

pub loop-member-preserved : goal.loop-member-preserved
loop-member-preserved c =
    kept_step (codes "detail") c.args.members.now c.loop-member.member-index c.member-item.result (pairs_of c.loop-member.kept.items) (pairs_of c.push_unless_detail.new.kept.items)
    c.loop-member-test.true c.member-item.is c.loop-member.invariant
    (c.in_ok-push_unless_detail.ensures ∙ ap (λ k. pairs_of c.loop-member.kept.items ++ cond (bytes_eq k (codes "detail")) [] ((k, tree_of c.member-item.result.1) ∷ [])) c.as_str.ensures)

pub returns : goal.returns
returns c = all_kept (codes "detail") c.args.members.now c.loop-member.member-index (pairs_of c.loop-member.kept.items) c.loop-member-test.false c.loop-member.invariant
