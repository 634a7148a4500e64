use Rattle.std.proofs.Common.{◌≡◌, map, take, drop, ap, sym, ◌∙◌, ◌++◌}
use Rattle.std.specs.Arc.{arc_value}
use Rattle.std.proofs.lemmas.List.{take-map}
use Rattle.name_rows.proofs.BlockLemmas.{spliced_rows, spliced_full, rest_mapped}
use Rattle.name_rows.proofs.blocks.spliced.Goals as goal

pub returns-clause-rows : goal.returns-clause-rows
returns-clause-rows g c =
    let blocks = map arc_value c.args.blocks.now in
    let first : map arc_value c.push_shared.new.copies.items ≡ take c.args.from blocks =
    c.in_ok-push_shared.ensures ∙ ap (λ xs. map arc_value xs ++ map arc_value (take c.args.from c.args.blocks.now)) c.new-new.ensures.items
    ∙ sym (take-map arc_value c.args.from c.args.blocks.now) in
    let third : map arc_value c.push_shared-2.new.copies.items ≡ map arc_value c.push_cut.new.blocks.items ++ drop c.args.to blocks =
    c.in_ok-push_shared-2.ensures ∙ ap (λ xs. map arc_value c.push_cut.new.blocks.items ++ xs) (rest_mapped arc_value c.args.blocks.now c.args.to) in
    spliced_rows blocks (map arc_value c.push_shared.new.copies.items) (map arc_value c.push_cut.new.blocks.items)
    (map arc_value c.push_shared-2.new.copies.items) (map arc_value c.args.rows.items) c.args.from c.args.to first c.in_ok-push_cut.ensures third

pub returns-clause-full : goal.returns-clause-full
returns-clause-full g c =
    let blocks = map arc_value c.args.blocks.now in
    let first : map arc_value c.push_shared.new.copies.items ≡ take c.args.from blocks =
    c.in_ok-push_shared.ensures ∙ ap (λ xs. map arc_value xs ++ map arc_value (take c.args.from c.args.blocks.now)) c.new-new.ensures.items
    ∙ sym (take-map arc_value c.args.from c.args.blocks.now) in
    let third : map arc_value c.push_shared-2.new.copies.items ≡ map arc_value c.push_cut.new.blocks.items ++ drop c.args.to blocks =
    c.in_ok-push_shared-2.ensures ∙ ap (λ xs. map arc_value c.push_cut.new.blocks.items ++ xs) (rest_mapped arc_value c.args.blocks.now c.args.to) in
    spliced_full blocks (map arc_value c.push_shared.new.copies.items) (map arc_value c.push_cut.new.blocks.items)
    (map arc_value c.push_shared-2.new.copies.items) (map arc_value c.args.rows.items) c.args.from c.args.to first c.in_ok-push_cut.ensures third
    c.requires.full
