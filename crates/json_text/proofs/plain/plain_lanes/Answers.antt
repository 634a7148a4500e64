use Rattle.std.proofs.Common.{sym, ap, ◌∙◌, arith}
use lib.Count.{count_trailing_zeros}
use Rattle.json_text.proofs.PlainLemmas.{none_stops, some_stop}
use Rattle.json_text.proofs.plain.plain_lanes.Goals as goal

pub returns-then-stops-eq0-clause-plain : goal.returns-then-stops-eq0-clause-plain
returns-then-stops-eq0-clause-plain g c = none_stops c.args.most g.row.N c.args.at c.args.bytes.now c.requires.room (sym c.stops-stops.ensures ∙ c.if-stops-eq0.true)

pub returns-else-stops-eq0-clause-within : goal.returns-else-stops-eq0-clause-within
returns-else-stops-eq0-clause-within g c =
    let s = some_stop c.args.most g.row.N c.args.at c.args.bytes.now c.requires.room c.requires.few (omega (arith, c.stops-stops.ensures)) in
    omega (arith, s.0, ap (count_trailing_zeros 64) c.stops-stops.ensures)

pub returns-else-stops-eq0-clause-plain : goal.returns-else-stops-eq0-clause-plain
returns-else-stops-eq0-clause-plain g c = λ k from to.
    let s = some_stop c.args.most g.row.N c.args.at c.args.bytes.now c.requires.room c.requires.few (omega (arith, c.stops-stops.ensures)) in
    s.1 k from (omega (arith, ap (count_trailing_zeros 64) c.stops-stops.ensures))
