use Rattle.json_text.specs.View.{tree_of}
use Rattle.std.proofs.Common.{◌≡◌, ◌+◌, ◌⊎◌, true, false, get_or, refl, arith}
use Rattle.leaf_match.specs.Cidr.{leading_bits}
use Rattle.value_index.specs.declared.row.Row.{Row}
use Rattle.value_index.specs.Adds.{HasBitsBelow}
use Rattle.value_index.specs.Signature.{network}
use Rattle.value_index.proofs.HitLemmas.{adds_nothing, adds_then, adds_fewer}
use Rattle.value_index.proofs.AddressLemmas.{bits_more}
use Rattle.value_index.proofs.hits.decide_networks.Goals as goal

pub loop-number-init : goal.loop-number-init
loop-number-init c =
    adds_nothing (HasBitsBelow 0 c.args.listed.now c.args.address.family c.args.address.bits) c.args.rows.now (tree_of c.args.scalar.now) c.args.marks.now
    (λ row h met. omega (arith, h.1))

pub loop-number-preserved : goal.loop-number-preserved
loop-number-preserved c =
    let i = c.loop-number.number in
    let listed = c.args.listed.now in
    let family = c.args.address.family in
    let bits = c.args.address.bits in
    let rows = c.args.rows.now in
    let leaf = tree_of c.args.scalar.now in
    let before = HasBitsBelow i listed family bits in
    let last : Row → Type 0 = λ row. (get_or listed i false ≡ true) × (row.signature ≡ network family i (leading_bits family i bits)) in
    adds_fewer (λ row. before row ⊎ last row) (HasBitsBelow (i + 1) listed family bits) rows leaf c.args.marks.now c.decide_network.new.marks
    (adds_then before last rows leaf c.args.marks.now c.loop-number.marks c.decide_network.new.marks c.loop-number.invariant c.decide_network.ensures)
    (bits_more listed family bits i (get_or listed i false) refl)
