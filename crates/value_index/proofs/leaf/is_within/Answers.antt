use Rattle.pattern_meaning.proofs.LeafLemmas.{within}
use Rattle.value_index.proofs.leaf.is_within.Goals as goal

pub returns : goal.returns
returns c = within c.args.comparisons.now c.args.spelling.now c.millionths.result c.all_compare.result c.millionths.ensures c.all_compare.ensures
