use Rattle.std.proofs.Common.{◌++◌, ap, sym, ◌∙◌, append-nil}
use Rattle.json_text.specs.View.{tree_of}
use Rattle.event_flatten.specs.Wanted.{wants_of}
use Rattle.event_flatten.specs.Walk.{below, found_in}
use Rattle.event_flatten.proofs.LeafLemmas.{found_none}
use Rattle.event_flatten.proofs.WalkLemmas.{members_step}
use Rattle.event_flatten.proofs.walk.+walk.Goals.{walk_members-in-Some+in_ok-walk, walk_members-in_default}
use Rattle.event_flatten.proofs.walk.+walk.Goals as goal

pub walk_members-loop-key-preserved : goal.walk_members-loop-key-preserved
walk_members-loop-key-preserved t c =
    let ws = wants_of c.args.wanted in
    let found = c.loop-key.found in
    let inside = tree_of c.loop-key-item.result.1 in
    members_step found c.match-below.found _ ws c.args.members.now c.loop-key.key-index c.loop-key-item.result
    c.loop-key-test.true c.loop-key-item.is c.loop-key.invariant
    (elim c.match-below.branch [
      | walk_members-in-Some+in_ok-walk w ↦ w.found-is ∙ w.in_ok-walk.ensures
          ∙ ap (λ v. found ++ found_in v inside) (w.in-Some.ensures ∙ ap (λ k. below k ws) c.as_str.ensures)
      | walk_members-in_default w ↦ w.found-is ∙ sym (ap (λ v. found ++ found_in v inside) (sym (ap (λ k. below k ws) c.as_str.ensures) ∙ w.in_default.ensures)
          ∙ ap (λ x. found ++ x) (found_none inside) ∙ append-nil found)
    ])
