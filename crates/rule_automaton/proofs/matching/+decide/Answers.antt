use Rattle.std.proofs.Common.{arith}
use Rattle.json_text.specs.View.{tree_of}
use Rattle.rule_automaton.proofs.MatchLemmas.{decided_none, decided_more}
use Rattle.rule_automaton.proofs.matching.+decide.Goals as goal

pub returns-in-None : goal.returns-in-None
returns-in-None t c = decided_none c.args.rules.now (tree_of c.args.event.now) c.args.marks.now c.clear.new.self c.in-None.ensures c.clear.ensures

pub returns-in-Some : goal.returns-in-Some
returns-in-Some t c =
    decided_more c.args.rules.now c.in-Some.rest.now c.in-Some.rule.now (tree_of c.args.event.now) c.args.marks.now c.decide.new.marks c.set.new.self
    c.in-Some.ensures.3 (let h = c.in-Some.ensures.2 in let s = c.decide.ensures.same_places in omega (arith, h, s)) c.decide.ensures c.set.ensures
