use Rattle.std.proofs.Common.{subst}
use Rattle.std.specs.List.{Contains}
use Rattle.leaf_match.specs.Cidr.{dot}
use Rattle.leaf_match.proofs.CidrLemmas.{not_address, Contains-from_found}
use Rattle.value_index.proofs.address.Address.read.Goals as goal

pub returns-then-contains : goal.returns-then-contains
returns-then-contains c =
    let text = c.args.text.now in
    let found = Contains-from_found c.as_bytes.result.now dot c.contains.result c.if-contains.true c.contains.ensures.cases in
    let dotted = subst (λ x. Contains x dot) c.as_bytes.ensures.value found in
    not_address text c.in_default.ensures.value (λ address _ plain. plain dotted)

pub returns-in-Err : goal.returns-in-Err
returns-in-Err c = not_address c.args.text.now c.in_default.ensures.value (λ address spelled _. c.in-Err.ensures.value address spelled)
