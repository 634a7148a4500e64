use Rattle.std.proofs.Common.{rules, ◌≡◌, ◌^◌, ◌<◌, sym, subst}
use Rattle.leaf_match.specs.Cidr.{leading_bits}
use Rattle.leaf_match.proofs.CidrLemmas.{leading_bits-small}
use Rattle.leaf_match.proofs.address.Address.leading_bits.Goals as goal

pub returns-clause-small : goal.returns-clause-small
returns-clause-small c =
    let address = c.args.self in
    let value : c.unwrap_or.result ≡ leading_bits address.family c.args.length address.bits = search rules in
    subst (λ bits. bits < 2 ^ c.args.length) (sym value) (leading_bits-small address.family c.args.length address.bits c.requires address.in_range)
