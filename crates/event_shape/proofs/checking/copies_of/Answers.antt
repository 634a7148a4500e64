use Rattle.std.proofs.Common.{◌++◌, ◌∷◌, [], ◌∙◌, take, ap, sym, subst, All}
use Rattle.std.specs.Str.{IsUtf8}
use Rattle.std.proofs.lemmas.List.{take_more}
use Rattle.std.proofs.lemmas.List.Elements.{All-more}
use Rattle.event_shape.proofs.checking.copies_of.Goals as goal

pub loop-text-preserved : goal.loop-text-preserved
loop-text-preserved c =
    let i = c.loop-text.text-index in
    let texts = c.args.texts.now in
    let read = c.as_str.ensures ∙ c.text-item.is in (
      c.in_ok-push.ensures.items ∙ ap (λ xs. xs ++ c.in_ok-from_str.field-0 ∷ []) c.loop-text.invariant.0
          ∙ ap (λ t. take i texts ++ t ∷ []) (c.in_ok-from_str.ensures ∙ read) ∙ sym (take_more texts i c.text-item.result c.loop-text-test.true),
      All-more IsUtf8 texts i c.text-item.result c.loop-text-test.true c.loop-text.invariant.1 (subst IsUtf8 read c.as_str.utf8),
    )

pub returns-clause-utf8 : goal.returns-clause-utf8
returns-clause-utf8 c = subst (All IsUtf8) (sym c.loop-text.invariant.0) c.loop-text.invariant.1
