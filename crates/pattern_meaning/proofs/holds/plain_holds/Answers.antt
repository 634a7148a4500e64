use Rattle.json_text.specs.View.{tree_of}
use Rattle.pattern_meaning.specs.PatternView.{pattern_of}
use Rattle.pattern_meaning.proofs.QuickLemmas.{quick_decides}
use Rattle.pattern_meaning.proofs.holds.plain_holds.Goals as goal

pub returns-in-Some : goal.returns-in-Some
returns-in-Some c = quick_decides (pattern_of c.args.pattern.now) (tree_of c.args.event.now) c.in-Some.met c.requires.value c.in-Some.ensures
