use Rattle.std.proofs.Common.{[], ◌∷◌, subst, arith}
use Rattle.std.proofs.lemmas.Option.{IfSome_then}
use Rattle.event_text.specs.Written.{BeginsItems}
use Rattle.event_text.proofs.TextLemmas.{cut_1, left_after}
use Rattle.event_text.proofs.ListLemmas.{no_items_begin, items_moved}
use Rattle.event_text.proofs.fields.after_resources.Goals as goal

pub returns-in-34 : goal.returns-in-34
returns-in-34 c =
    let bytes = c.args.bytes.now in
    IfSome_then c.after_some_resources.result c.after_some_resources.ensures
    (λ rest p. (p.0, items_moved p.1 (left_after bytes 1 (34 ∷ []) (cut_1 bytes 34 c.in-34.len_at_least (omega arith)))))

pub returns-in-93 : goal.returns-in-93
returns-in-93 c =
    let bytes = c.args.bytes.now in
    ([], subst (BeginsItems 0 [] bytes) (left_after bytes 1 (93 ∷ []) (cut_1 bytes 93 c.in-93.len_at_least (omega arith))) (no_items_begin 0 bytes))
