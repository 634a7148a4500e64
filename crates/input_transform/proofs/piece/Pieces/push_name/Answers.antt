use Rattle.std.proofs.Common.{◌∙◌, ap, ◌++◌, ◌∷◌, []}
use Rattle.input_transform.specs.declared.piece.Piece.TheVariants.{Plain}
use Rattle.input_transform.proofs.NameLemmas.{shown_named}
use Rattle.input_transform.proofs.piece.Pieces.push_name.Goals as goal

pub returns : goal.returns
returns c scene paths =
    shown_named scene paths c.args.self.now.done.items c.push.new.self.items c.push-2.new.self.items c.args.self.now.run c.replace-run.new.dest c.args.piece
    (c.in_ok-push.ensures.items ∙ ap (λ b. c.args.self.now.done.items ++ Plain b ∷ []) c.replace-run.ensures.value) c.in_ok-push-2.ensures.items
    (c.replace-run.ensures.after ∙ c.new_beside-next.ensures)
