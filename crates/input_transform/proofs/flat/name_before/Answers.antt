use Rattle.std.proofs.Common.{length}
use Rattle.input_transform.proofs.FlatLemmas.{name_is, name_is_none}
use Rattle.input_transform.proofs.flat.name_before.Goals as goal

pub returns-in-Some-known_named : goal.returns-in-Some-known_named
returns-in-Some-known_named c =
    let k = c.in-Some-known_named.ensures in
    let n = name_is c.args.paths.now c.args.bytes.now c.in-Some.name.now c.in-Some.rest.now k.0 c.in-Some.ensures.0 c.in-Some.ensures.1 k.1 in
    (k.0, length c.in-Some.name.now, n.0, k.2, n.1)

pub returns-in-None-known_named : goal.returns-in-None-known_named
returns-in-None-known_named c = name_is_none c.args.paths.now c.args.bytes.now c.in-Some.name.now c.in-Some.ensures.0 c.in-None-known_named.ensures
