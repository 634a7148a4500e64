use Rattle.std.proofs.Common.{◌-◌, [], ◌∷◌, ◌++◌, length, set, ap, ◌∙◌}
use Rattle.record_file.specs.Records.{length_bytes}
use Rattle.record_file.proofs.TextLemmas.{written}
use Rattle.record_file.proofs.text.add.Goals as goal

pub returns-clause-ok : goal.returns-clause-ok
unfolding length_bytes
returns-clause-ok c =
    written _ c.to_be_bytes.result c.args.payload.now (0 ∷ []) c.write.new.bytes.items c.write-2.new.bytes.items c.write-3.new.bytes.items
    (c.write.ensures.items ∙ ap (λ m. m ++ c.to_be_bytes.result) (c.open_last.ensures.items ∙ ap (λ m. set m (length m - 1) 1) c.try_reserve.ensures.items))
    c.write-2.ensures.items c.write-3.ensures.items
    ∙ ap (λ l. set c.args.bytes.now.items (length c.args.bytes.now.items - 1) 1 ++ (l ++ (c.args.payload.now ++ 0 ∷ []))) c.to_be_bytes.ensures
