use Rattle.leaf_match.specs.Cidr.{leading_bits}
use Rattle.leaf_match.proofs.CidrLemmas.{none_written, some_written, no_slash_no_prefix, no_address_no_prefix, no_length_no_prefix}
use Rattle.leaf_match.proofs.CidrLemmas.{prefix_written, prefix_only, IsLastCut-from_rsplit}
use Rattle.leaf_match.proofs.cidr.Cidr.read.Goals as goal

pub returns-in_err-address : goal.returns-in_err-address
returns-in_err-address c =
    none_written c.args.text.now c.from_residual.result c.from_residual.ensures (no_slash_no_prefix c.args.text.now c.in_err-address.ensures.cases)

pub returns-in_err-address-2 : goal.returns-in_err-address-2
returns-in_err-address-2 c =
    let cut = IsLastCut-from_rsplit c.args.text.now c.in_ok-address.address.now c.in_ok-address.digits.now c.in_ok-address.ensures.cases in
    none_written c.args.text.now c.from_residual-in_err-address-2.result c.from_residual-in_err-address-2.ensures
    (no_address_no_prefix c.args.text.now c.in_ok-address.address.now c.in_ok-address.digits.now cut c.in_err-address-2.ensures)

pub returns-in_err-length : goal.returns-in_err-length
returns-in_err-length c =
    let front = c.in_ok-address.address.now in
    let back = c.in_ok-address.digits.now in
    let cut = IsLastCut-from_rsplit c.args.text.now front back c.in_ok-address.ensures.cases in
    let none = rw c.width.ensures at c.in_err-length.ensures in
    let h = c.in_ok-address-2.ensures in
    none_written c.args.text.now c.from_residual-in_err-length.result c.from_residual-in_err-length.ensures
    (no_length_no_prefix c.args.text.now front back cut c.in_ok-address-2.address.family c.in_ok-address-2.address.bits h none)

pub returns : goal.returns
returns c =
    let front = c.in_ok-address.address.now in
    let back = c.in_ok-address.digits.now in
    let cut = IsLastCut-from_rsplit c.args.text.now front back c.in_ok-address.ensures.cases in
    let h = c.in_ok-address-2.ensures in
    let f = c.in_ok-address-2.address.family in
    let bits = c.in_ok-address-2.address.bits in
    let n = c.in_ok-length.length in
    let within = rw c.width.ensures at c.in_ok-length.ensures.0 in
    rw c.leading_bits.ensures.value (some_written c.args.text.now (record { family = f; first_bits = leading_bits f n bits; length = n })
    (prefix_written c.args.text.now front back cut f bits n h within c.in_ok-length.ensures.1)
    (prefix_only c.args.text.now front back cut f bits n h within c.in_ok-length.ensures.1))
