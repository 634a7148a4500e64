use Rattle.std.proofs.Common.{w8}
use Rattle.std.proofs.lemmas.Simd.{length-chunk, chunk-fits}
use lib.Lanes.{chunk}
use Rattle.json_text.proofs.PlainLemmas.{stops_are, lanes_are}
use Rattle.json_text.proofs.plain.stops.Goals as goal

pub returns : goal.returns
returns g c =
    let v = chunk c.args.at g.row.N c.args.bytes.now in
    let long = length-chunk c.args.at g.row.N c.args.bytes.now c.requires.room in
    stops_are c.args.most g.row.N v _ c.requires.most long c.requires.few (chunk-fits w8 c.args.at g.row.N c.args.bytes.now c.type_inv.bytes)
    (lanes_are c.args.most g.row.N v long)
