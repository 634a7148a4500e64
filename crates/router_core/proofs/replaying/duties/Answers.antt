use Rattle.std.proofs.Common.{Some, ap, ◌∙◌}
use Rattle.std.proofs.lemmas.Result.{IfOk-weaker}
use Rattle.json_text.specs.Compact.{compact_text}
use Rattle.event_shape.specs.Event.{event_tree}
use Rattle.router_core.proofs.replaying.duties.Goals as goal

pub returns-then-need_tree : goal.returns-then-need_tree
returns-then-need_tree c =
    let e = c.args.event.now in
    let text_is = c.in_ok-text-2.ensures ∙ c.in_ok-text.ensures.text ∙ ap (λ n. compact_text (event_tree e (Some n))) c.as_str.ensures in
    let tree_is = c.in_ok-tree.ensures.tree ∙ ap (λ n. event_tree e (Some n)) c.as_str-then-need_tree.ensures in
    IfOk-weaker c.duties_of.result _ _ (λ duties owed time is. owed (event_tree e (Some c.args.name.now)) time text_is tree_is is) c.duties_of.ensures

pub returns : goal.returns
returns c =
    let e = c.args.event.now in
    let text_is = c.in_ok-text-2.ensures ∙ c.in_ok-text.ensures.text ∙ ap (λ n. compact_text (event_tree e (Some n))) c.as_str.ensures in
    IfOk-weaker c.duties_of-else-need_tree.result _ _ (λ duties owed time is. owed (event_tree e (Some c.args.name.now)) time text_is tt is)
    c.duties_of-else-need_tree.ensures
