use Rattle.std.proofs.Common.{◌≡◌, ◌+◌, ◌∙◌, ap, sym, arith}
use Rattle.std.specs.Int.{w128, to_be_bytes, from_be_bytes}
use Rattle.uuid.specs.Text.{parsed}
use Rattle.uuid.proofs.RoundTrips.{parse_gives}
use Rattle.uuid.proofs.OrderLemmas.{from_be_bytes-to_be_bytes_16}
use Rattle.event_shape.specs.Id.{id_base}
use Rattle.event_shape.proofs.OnceLemmas.{id_parsed}
use Rattle.event_shape.proofs.id.number_of.Goals as goal

pub returns-in-Ok-clause-found : goal.returns-in-Ok-clause-found
returns-in-Ok-clause-found c = λ n fits e.
    let given = parse_gives c.try_parse.result c.args.id.now (to_be_bytes w128 (id_base + n))
    c.try_parse.ensures.ok c.try_parse.ensures.bytes (id_parsed n ∙ ap parsed (sym e)) in
    let is = c.in-Ok.is in
    let same : c.in-Ok.id ≡ to_be_bytes w128 (id_base + n) = cc in
    c.number_above_base.ensures.found n fits (c.as_u128.ensures ∙ ap (from_be_bytes w128) same ∙ from_be_bytes-to_be_bytes_16 (id_base + n) (omega arith))

pub returns-in-Err-clause-found : goal.returns-in-Err-clause-found
returns-in-Err-clause-found c = λ n fits e.
    let given = parse_gives c.try_parse.result c.args.id.now (to_be_bytes w128 (id_base + n))
    c.try_parse.ensures.ok c.try_parse.ensures.bytes (id_parsed n ∙ ap parsed (sym e)) in
    let is = c.in-Err.is in
    cc
