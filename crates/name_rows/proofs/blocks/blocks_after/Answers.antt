use Rattle.std.proofs.Common.{◌∙◌}
use Rattle.std.specs.Arc.{arc_value}
use Rattle.name_rows.proofs.BlockLemmas.{rest_mapped}
use Rattle.name_rows.proofs.blocks.blocks_after.Goals as goal

pub returns : goal.returns
returns g c = rest_mapped arc_value c.args.blocks.now c.after.result ∙ c.after.ensures.same
