use Rattle.std.proofs.Common.{◌++◌, ap, ◌∙◌}
use Rattle.json_text.specs.View.{tree_of}
use Rattle.json_text.specs.Compact.{compact_text}
use Rattle.input_transform.specs.Stored.{pieces_text}
use Rattle.input_transform.specs.Letters.{steps_of, filled_back}
use Rattle.input_transform.proofs.template.stored.Goals as goal

pub invariant_of-result : goal.invariant_of-result
invariant_of-result c scene h =
    let steps = steps_of c.args.paths.now in
    let t = filled_back c.args.paths.now scene (tree_of c.args.json.now) in (
      t,
      c.requires scene h,
      ap (λ ps. pieces_text scene ps c.in_ok-pieces.pieces.items) c.in_ok-paths.ensures ∙ c.in_ok-pieces.ensures scene steps ∙ c.in_ok-push_value.ensures scene
          ∙ ap (λ x. x ++ compact_text t) (c.new-out.ensures scene steps),
    )

pub returns-clause-filled : goal.returns-clause-filled
returns-clause-filled c scene =
    let steps = steps_of c.args.paths.now in
    let t = filled_back c.args.paths.now scene (tree_of c.args.json.now) in
    ap (λ ps. pieces_text scene ps c.in_ok-pieces.pieces.items) c.in_ok-paths.ensures ∙ c.in_ok-pieces.ensures scene steps ∙ c.in_ok-push_value.ensures scene
    ∙ ap (λ x. x ++ compact_text t) (c.new-out.ensures scene steps)
