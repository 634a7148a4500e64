use Rattle.std.proofs.Common.{subst}
use Rattle.std.proofs.lemmas.List.{at_drop_more}
use Rattle.std.proofs.lemmas.Result.{err_from_is_err_and}
use Rattle.json_text.specs.Tree.{members_of}
use Rattle.json_text.specs.View.{pairs_of}
use Rattle.api_members.proofs.RefusalLemmas.{IsSoFar, sound_so_far, refused_so_far}
use Rattle.api_members.proofs.check.check_members.Goals as goal

pub returns-in_err-check_member : goal.returns-in_err-check_member
returns-in_err-check_member c =
    let ms = members_of (pairs_of c.args.members.now) in
    let left = at_drop_more (λ l. l) c.args.asked.now c.loop-one.one-index _ c.loop-one-test.true in
    let before = subst (λ l. IsSoFar c.args.asked.now l ms) left c.loop-one.invariant in
    let p = err_from_is_err_and c.from_residual.result c.from_residual.ensures.1 in
    rw (p.1, p.2) (refused_so_far c.args.asked.now _ _ ms c.in_err-check_member.field-0.0 before c.in_err-check_member.ensures)

pub loop-one-preserved : goal.loop-one-preserved
loop-one-preserved c =
    let ms = members_of (pairs_of c.args.members.now) in
    let left = at_drop_more (λ l. l) c.args.asked.now c.loop-one.one-index _ c.loop-one-test.true in
    let before = subst (λ l. IsSoFar c.args.asked.now l ms) left c.loop-one.invariant in
    sound_so_far c.args.asked.now _ _ ms before c.in_ok-check_member.ensures
