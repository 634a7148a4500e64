use Rattle.std.proofs.Common.{◌<◌, ℕ, List, length, map, sym, ◌∙◌, subst}
use Rattle.std.specs.Prelude.{All, Contains}
use Rattle.json_text.specs.Tree.{Tree}
use Rattle.json_text.specs.View.{tree_of}
use Rattle.rule_automaton.specs.declared.rule.Rule.{Rule}
use Rattle.rule_automaton.specs.Matching.{AreFound, AreDecided}
use Rattle.rule_automaton.specs.RuleView.{rule_in}
use Rattle.rule_automaton.proofs.LeafLemmas.{leaf_number}
use Rattle.rule_automaton.proofs.MatchLemmas.{cleared_length, marks_below, rules_below, decided_all}
use Rattle.rule_automaton.proofs.automaton.Automaton.matches.Goals as goal

pub find-requires-clause-places : goal.find-requires-clause-places
find-requires-clause-places c = λ leaf inside.
    leaf_number c.args.self.now.table.paths (tree_of c.args.event.now) leaf (subst (λ l. Contains l leaf) (c.leaves.ensures ∙ c.requires.fields) inside)

pub find-requires-clause-marks : goal.find-requires-clause-marks
find-requires-clause-marks c =
    let self = c.args.self.now in
    let same = cleared_length c.args.marks.now c.clear.new.self c.clear.ensures in
    marks_below self.rules.items self.table (length c.clear.new.self) self.entered
    (subst (λ n. All (λ (rule : ℕ × List ℕ). rule.0 < n) (map rule_in self.rules.items)) (sym same) c.requires.marks)

pub decide-requires-clause-marks : goal.decide-requires-clause-marks
decide-requires-clause-marks c =
    let self = c.args.self.now in
    let same = c.find.ensures.same_places ∙ cleared_length c.args.marks.now c.clear.new.self c.clear.ensures in
    subst (λ (l : List Rule). All (λ (rule : Rule). rule.number < length c.find.new.marks) l) (sym c.deref.ensures.value)
    (rules_below self.rules.items (length c.find.new.marks)
    (subst (λ n. All (λ (rule : ℕ × List ℕ). rule.0 < n) (map rule_in self.rules.items)) (sym same) c.requires.marks))

pub returns : goal.returns
returns c =
    let self = c.args.self.now in
    let event = tree_of c.args.event.now in
    decided_all self.rules.items self.table event c.args.marks.now c.clear.new.self c.find.new.marks c.decide.new.marks self.entered c.requires.value
    (cleared_length c.args.marks.now c.clear.new.self c.clear.ensures)
    (subst (λ (l : List (ℕ × Tree)). AreFound self.table l c.clear.new.self c.find.new.marks) (c.leaves.ensures ∙ c.requires.fields) c.find.ensures)
    (subst (λ (l : List Rule). AreDecided l event c.find.new.marks c.decide.new.marks) c.deref.ensures.value c.decide.ensures)
