use Rattle.std.proofs.Common.{◌≡◌, sym, ◌∙◌}
use Rattle.std.proofs.lemmas.Bool.{false≢true}
use Rattle.json_text.specs.View.{tree_of}
use Rattle.value_index.specs.Adds.{HasWhole}
use Rattle.value_index.proofs.HitLemmas.{adds_fewer, adds_nothing}
use Rattle.value_index.proofs.hits.decide_whole.Goals as goal

pub returns-then-has : goal.returns-then-has
returns-then-has c =
    adds_fewer (λ row. row.signature ≡ c.signed.result) (HasWhole c.args.listed.now c.args.bytes.now) c.args.rows.now (tree_of c.args.scalar.now)
    c.args.marks.now c.decide_with.new.marks c.decide_with.ensures (λ row h. h.1 ∙ sym c.signed.ensures)

pub returns-else-has : goal.returns-else-has
returns-else-has c =
    adds_nothing (HasWhole c.args.listed.now c.args.bytes.now) c.args.rows.now (tree_of c.args.scalar.now) c.args.marks.now
    (λ row h met. false≢true (sym c.if-has.false ∙ c.has.ensures ∙ h.0))
