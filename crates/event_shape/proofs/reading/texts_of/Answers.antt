use Rattle.std.proofs.Common.{◌++◌, ◌∙◌, map, sym, ap}
use Rattle.json_text.specs.Tree.{text}
use Rattle.json_text.specs.View.{tree_of, trees_of}
use Rattle.event_shape.proofs.PartLemmas.{not_texts}
use Rattle.event_shape.proofs.reading.texts_of.Goals as goal

pub returns-in-None-text_of : goal.returns-in-None-text_of
returns-in-None-text_of c = λ ts e.
    not_texts c.loop-item.texts.items ts (tree_of c.in-Some.item) _ c.in-None-text_of.ensures
    (sym (c.loop-item.invariant.1 ∙ ap (λ xs. map text c.loop-item.texts.items ++ trees_of xs) c.in-Some.ensures.steps.0) ∙ e)
