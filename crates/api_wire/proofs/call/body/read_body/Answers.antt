use Rattle.std.proofs.Common.{◌<◌, length, refl, arith}
use Rattle.std.proofs.lemmas.Bool.Decides.{nat_tests}
use Rattle.json_text.specs.View.{tree_of}
use Rattle.api_wire.proofs.CallLemmas.{body_only, body_none}
use Rattle.api_wire.proofs.call.body.read_body.Goals as goal

pub returns-in-Some-clause-only : goal.returns-in-Some-clause-only
returns-in-Some-clause-only c =
    let some : 0 < length c.args.bytes.now = grind (arith, nat_tests) in
    λ other p. body_only c.args.bytes.now (tree_of c.in_ok-read.field-0) _ other some c.in_ok-read.ensures.only c.in-Some.ensures p

pub returns-in-None-clause-read : goal.returns-in-None-clause-read
returns-in-None-clause-read c =
    let some : 0 < length c.args.bytes.now = grind (arith, nat_tests) in
    (refl, λ given. body_none c.args.bytes.now (tree_of c.in_ok-read.field-0) some c.in_ok-read.ensures.only c.in-None.ensures given.0 given.1)
