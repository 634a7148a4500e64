use Rattle.std.proofs.Common.{◌++◌, ◌∷◌, [], ap, refl, ◌∙◌}
use Rattle.duty_journal.proofs.redo.one_part.Goals as goal

pub returns-in-Ok-clause-part : goal.returns-in-Ok-clause-part
returns-in-Ok-clause-part c =
    (c.push_back.new.self, refl, c.in-Ok.ensures.items ∙ ap (λ ps. ps ++ c.args.part ∷ []) c.new-parts.ensures.items)
