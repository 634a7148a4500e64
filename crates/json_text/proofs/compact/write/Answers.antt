use Rattle.json_text.{specs.View.tree_of, proofs.SpelledBack.compact_spelled}
use Rattle.json_text.proofs.compact.write.Goals as goal

pub returns-then-is_err-clause-spells : goal.returns-then-is_err-clause-spells
returns-then-is_err-clause-spells c h = compact_spelled (tree_of c.args.json.now) h

pub returns-else-is_err-clause-spells : goal.returns-else-is_err-clause-spells
returns-else-is_err-clause-spells c h = compact_spelled (tree_of c.args.json.now) h
