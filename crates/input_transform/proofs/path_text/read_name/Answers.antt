use Rattle.std.proofs.Common.{sym, ap, ◌∙◌}
use Rattle.std.proofs.lemmas.List.{nil_from_length}
use Rattle.std.proofs.lemmas.Bool.{eqb-true}
use Rattle.input_transform.specs.declared.path.Step.TheVariants.{Name}
use Rattle.input_transform.proofs.PathLemmas.{name_only}
use Rattle.input_transform.proofs.path_text.read_name.Goals as goal

pub returns-then-is_empty-clause-only : goal.returns-then-is_empty-clause-only
returns-then-is_empty-clause-only c step rest begins ends =
    let k = name_only c.args.bytes.now c.split_at.result.0.now c.split_at.result.1.now c.letters_len.result step rest
    c.split_at.ensures.front c.split_at.ensures.back c.letters_len.ensures.letters c.letters_len.ensures.longest begins ends in
    absurd (k.0 (nil_from_length c.split_at.result.0.now (eqb-true _ _ (sym c.if-is_empty.ensures))))

pub returns-clause-only : goal.returns-clause-only
returns-clause-only c step rest begins ends =
    let k = name_only c.args.bytes.now c.split_at.result.0.now c.split_at.result.1.now c.letters_len.result step rest
    c.split_at.ensures.front c.split_at.ensures.back c.letters_len.ensures.letters c.letters_len.ensures.longest begins ends in
    (ap Name c.in_ok-text_of_letters.ensures ∙ k.1, k.2)
