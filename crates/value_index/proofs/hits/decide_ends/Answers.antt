use Rattle.std.proofs.Common.{◌≡◌, ◌+◌, ◌<◌, ◌⊎◌, true, false, List, Bool, length, get_or, inl, inr, refl, ap, ◌∙◌, subst, arith}
use Rattle.json_text.specs.View.{tree_of}
use Rattle.value_index.specs.declared.row.Row.{Row}
use Rattle.value_index.specs.Adds.{Adds, HasEnd, HasEndBelow}
use Rattle.value_index.specs.Signature.{with_byte}
use Rattle.value_index.proofs.HitLemmas.{adds_nothing, adds_then, adds_fewer}
use Rattle.value_index.proofs.EndLemmas.{signature_more, end_more, end_all}
use Rattle.value_index.proofs.hits.decide_ends.Goals as goal

pub loop-number-init : goal.loop-number-init
loop-number-init c = record {
  signed = c.seed_of-signature.ensures;
  within = omega arith;
  adds = adds_nothing (HasEndBelow 0 c.of_side-listed.result.now c.args.side c.args.bytes.now) c.args.rows.now (tree_of c.args.scalar.now) c.args.marks.now
      (λ row h met. omega (arith, h.1));
}

pub loop-number-preserved : goal.loop-number-preserved
loop-number-preserved c =
    let i = c.loop-number.number in
    let listed = c.of_side-listed.result.now in
    let side = c.args.side in
    let bytes = c.args.bytes.now in
    let rows = c.args.rows.now in
    let leaf = tree_of c.args.scalar.now in
    let inv = c.loop-number.invariant in
    let before = HasEndBelow i listed side bytes in
    let last : Row → Type 0 = λ row. (get_or listed i false ≡ true) × (row.signature ≡ c.loop-number.signature) in
    let inside : i < length bytes = omega (arith, inv.within, c.if-number-bytes.false) in
    record {
      signed = c.with_byte-signature.ensures ∙ ap (with_byte c.loop-number.signature) c.byte_from.ensures
          ∙ signature_more side bytes i c.loop-number.signature inside inv.signed;
      within = omega (arith, inside);
      adds = adds_fewer (λ row. before row ⊎ last row) (HasEndBelow (i + 1) listed side bytes) rows leaf c.args.marks.now c.decide_if.new.marks
          (adds_then before last rows leaf c.args.marks.now c.loop-number.marks c.decide_if.new.marks inv.adds c.decide_if.ensures)
          (λ row. end_more listed side bytes row i c.loop-number.signature (get_or listed i false) refl inv.signed);
    }

pub returns-then-number-bytes : goal.returns-then-number-bytes
returns-then-number-bytes c =
    let i = c.loop-number.number in
    let listed = c.of_side-listed.result.now in
    let side = c.args.side in
    let bytes = c.args.bytes.now in
    let rows = c.args.rows.now in
    let leaf = tree_of c.args.scalar.now in
    let inv = c.loop-number.invariant in
    let before = HasEndBelow i listed side bytes in
    let last : Row → Type 0 = λ row. (get_or listed i false ≡ true) × (row.signature ≡ c.loop-number.signature) in
    let over : length bytes < i + 1 = omega (arith, c.if-number-bytes.true) in
    subst (λ (l : List Bool). Adds (HasEnd l side bytes) rows leaf c.args.marks.now c.decide_if.new.marks) c.of_side-listed.ensures
    (adds_fewer (λ row. before row ⊎ last row) (HasEnd listed side bytes) rows leaf c.args.marks.now c.decide_if.new.marks
    (adds_then before last rows leaf c.args.marks.now c.loop-number.marks c.decide_if.new.marks inv.adds c.decide_if.ensures)
    (λ row h. end_more listed side bytes row i c.loop-number.signature (get_or listed i false) refl inv.signed (end_all listed side bytes row (i + 1) (inl over) h)))

pub returns : goal.returns
returns c =
    let i = c.loop-number.number in
    let listed = c.of_side-listed.result.now in
    let side = c.args.side in
    let bytes = c.args.bytes.now in
    let rows = c.args.rows.now in
    let leaf = tree_of c.args.scalar.now in
    subst (λ (l : List Bool). Adds (HasEnd l side bytes) rows leaf c.args.marks.now c.loop-number.marks) c.of_side-listed.ensures
    (adds_fewer (HasEndBelow i listed side bytes) (HasEnd listed side bytes) rows leaf c.args.marks.now c.loop-number.marks c.loop-number.invariant.adds
    (λ row. end_all listed side bytes row i (inr c.loop-number-test.false)))
