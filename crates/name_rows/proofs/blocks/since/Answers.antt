use Rattle.std.specs.Arc.{arc_value}
use Rattle.name_rows.proofs.BlockLemmas.{since_here, since_before}
use Rattle.name_rows.proofs.blocks.since.Goals as goal

pub returns-in-Here : goal.returns-in-Here
returns-in-Here g c = λ rest _. since_here arc_value g.R.Row.name_of c.args.name.now c.args.rows.now c.in-Here.at c.in-Here.ensures rest

pub returns-in-Before : goal.returns-in-Before
returns-in-Before g c = λ rest greater. since_before arc_value g.R.Row.name_of c.args.name.now c.args.rows.now c.in-Before.at c.in-Before.ensures rest greater
