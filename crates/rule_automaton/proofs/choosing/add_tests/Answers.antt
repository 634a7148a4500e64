use Rattle.std.proofs.Common.{◌++◌, ◌∷◌, [], map, ap, ap₂, sym, ◌∙◌}
use Rattle.std.proofs.lemmas.List.{map-append}
use Rattle.pattern_meaning.specs.PatternView.{test_of}
use Rattle.pattern_meaning.proofs.GatherLemmas.{any_seen}
use Rattle.rule_automaton.specs.AnchorView.{part_of, parts_of}
use Rattle.rule_automaton.specs.Keys.{keys_of}
use Rattle.rule_automaton.proofs.AnchorLemmas.{adds_tests}
use Rattle.rule_automaton.proofs.choosing.add_tests.Goals as goal

pub returns : goal.returns
returns c =
    let ts = map test_of c.args.tests.now in
    let path = keys_of c.args.keys.now in
    let old = c.args.anchors.now.items in
    adds_tests path ts (parts_of old) (parts_of c.push.new.self.items) (sym (any_seen c.args.tests.now) ∙ sym c.have_missing.ensures ∙ c.if-have_missing.false)
    (ap parts_of c.in_ok-push.ensures.items ∙ map-append part_of old _ ∙ ap₂ (λ p l. parts_of old ++ (p, l) ∷ []) c.in_ok-path.ensures c.in_ok-tests.ensures)
