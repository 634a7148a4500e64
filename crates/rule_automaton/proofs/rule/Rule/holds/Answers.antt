use Rattle.json_text.specs.View.{tree_of}
use Rattle.pattern_meaning.specs.PatternView.{pattern_of}
use Rattle.rule_automaton.proofs.RuleLemmas.{text_holds}
use Rattle.rule_automaton.proofs.rule.Rule.holds.Goals as goal

pub returns : goal.returns
returns c =
    text_holds c.args.self.now.pattern c.pattern.result.now (pattern_of c.pattern-2.result.now) (tree_of c.args.event.now) c.plain_holds.result
    c.pattern.ensures c.pattern-2.ensures.text c.plain_holds.ensures
