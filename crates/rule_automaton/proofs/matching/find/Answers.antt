use Rattle.std.proofs.Common.{◌<◌, length, sym, ap, ◌∙◌, subst, arith}
use Rattle.std.specs.Prelude.{All, Contains}
use Rattle.std.specs.Arc.{arc_value}
use Rattle.event_flatten.specs.LeafView.{leaf_of}
use Rattle.value_index.specs.Hits.{Entry}
use Rattle.value_index.specs.Index.{entries_of}
use Rattle.rule_automaton.specs.Matching.{entries_at}
use Rattle.rule_automaton.proofs.MemberLemmas.{map_in}
use Rattle.rule_automaton.proofs.MatchLemmas.{found_next}
use Rattle.rule_automaton.proofs.matching.find.Goals as goal

pub index-requires : goal.index-requires
index-requires c =
    let leaf = c.leaf-item.result in
    let inside : Contains c.args.leaves.now leaf = (c.loop-leaf.leaf-index, c.loop-leaf-test.true, sym c.leaf-item.is) in
    let h = c.requires.places (leaf_of leaf) (map_in leaf_of c.args.leaves.now leaf inside) in
    omega (arith, h, c.args.table.now.same_length)

pub hits-requires-clause-marks : goal.hits-requires-clause-marks
hits-requires-clause-marks c =
    let leaf = c.leaf-item.result in
    let inside : Contains c.args.leaves.now leaf = (c.loop-leaf.leaf-index, c.loop-leaf-test.true, sym c.leaf-item.is) in
    let h = c.requires.places (leaf_of leaf) (map_in leaf_of c.args.leaves.now leaf inside) in
    let e = c.deref.ensures ∙ ap arc_value c.index.ensures in
    subst (λ x. All (λ (entry : Entry). entry.1 < length c.loop-leaf.marks) (entries_of x)) (sym e)
    (subst (λ n. All (λ (entry : Entry). entry.1 < n) (entries_at c.args.table.now leaf.number c.index.result.now)) (sym c.loop-leaf.invariant.same_places)
    (c.requires.marks leaf.number c.index.result.now h))

pub loop-leaf-preserved : goal.loop-leaf-preserved
loop-leaf-preserved c =
    let leaf = c.leaf-item.result in
    let inside : Contains c.args.leaves.now leaf = (c.loop-leaf.leaf-index, c.loop-leaf-test.true, sym c.leaf-item.is) in
    let h = c.requires.places (leaf_of leaf) (map_in leaf_of c.args.leaves.now leaf inside) in
    found_next c.args.table.now c.args.leaves.now c.loop-leaf.leaf-index leaf c.index.result.now c.deref.result.now c.args.marks.now c.loop-leaf.marks c.hits.new.marks
    c.loop-leaf-test.true c.leaf-item.is (omega (arith, h, c.args.table.now.same_length)) (c.deref.ensures ∙ ap arc_value c.index.ensures) c.loop-leaf.invariant c.hits.ensures
