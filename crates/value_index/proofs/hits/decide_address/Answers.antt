use Rattle.std.proofs.Common.{length}
use Rattle.json_text.specs.View.{tree_of}
use Rattle.value_index.specs.Adds.{HasBitsBelow, HasNetwork}
use Rattle.value_index.proofs.HitLemmas.{adds_fewer}
use Rattle.value_index.proofs.AddressLemmas.{by_bits}
use Rattle.value_index.proofs.hits.decide_address.Goals as goal

pub returns-in-Some : goal.returns-in-Some
returns-in-Some c =
    let lengths = c.args.lengths.now in
    let t = c.args.text.now in
    let list = c.of_family.result.now in
    let address = c.in-Some.address in
    adds_fewer (HasBitsBelow (length list) list address.family address.bits) (HasNetwork lengths t) c.args.rows.now (tree_of c.args.scalar.now) c.args.marks.now
    c.decide_networks.new.marks c.decide_networks.ensures
    (by_bits lengths t address.family address.bits list c.in-Some.ensures c.of_family.ensures)
