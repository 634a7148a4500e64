use Rattle.std.specs.Arc.{arc_value}
use Rattle.name_rows.proofs.BlockLemmas.{with_here, with_before, less_here, less_before}
use Rattle.name_rows.proofs.blocks.around.Goals as goal

pub returns-in-Here-clause-with : goal.returns-in-Here-clause-with
returns-in-Here-clause-with g c = λ row e. with_here arc_value g.R.Row.name_of c.args.name.now c.args.rows.now c.in-Here.at row e c.in-Here.ensures

pub returns-in-Here-clause-without : goal.returns-in-Here-clause-without
returns-in-Here-clause-without g c = less_here arc_value g.R.Row.name_of c.args.name.now c.args.rows.now c.in-Here.at c.requires c.in-Here.ensures

pub returns-in-Before-clause-with : goal.returns-in-Before-clause-with
returns-in-Before-clause-with g c = λ row e. with_before arc_value g.R.Row.name_of c.args.name.now c.args.rows.now c.in-Before.at row e c.in-Before.ensures

pub returns-in-Before-clause-without : goal.returns-in-Before-clause-without
returns-in-Before-clause-without g c = less_before arc_value g.R.Row.name_of c.args.name.now c.args.rows.now c.in-Before.at c.requires c.in-Before.ensures
