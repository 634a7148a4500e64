use Rattle.std.proofs.Common.{◌≡◌, ◌≤◌, ℕ, List, [], ◌∷◌, ◌++◌, map, length, ap, ◌∙◌, subst, arith}
use Rattle.std.specs.Prelude.{Contains, ◌↔◌}
use Rattle.value_index.specs.Index.{entered}
use Rattle.rule_automaton.specs.AnchorView.{part_of, shared_tests}
use Rattle.rule_automaton.proofs.TableLemmas.{marked_by, shared_table}
use Rattle.rule_automaton.proofs.entries.table_of_anchor.Goals as goal

pub returns : goal.returns
returns c =
    let n = c.args.number in
    let part = part_of c.args.anchor.now in
    let items : c.push.new.self.items ≡ part.0 ∷ [] = c.in_ok-push.ensures.items ∙ ap (λ l. l ++ c.in_ok-path.path ∷ []) c.new-paths.ensures.items
    ∙ ap (λ x. x ∷ []) (c.in_ok-path.ensures ∙ c.keys.ensures) in
    let tests : entered c.in_ok-tests.tests.items ≡ map (marked_by n) part.1 = c.in_ok-tests.ensures ∙ ap (λ l. map (marked_by n) (shared_tests l)) c.deref.ensures.value in
    let past : length c.of-paths.result ≤ c.loop-place._place = omega (arith, c.loop-place-test.false, c.len-place-end.ensures) in
    shared_table n part _ c.loop-place._place c.in_ok-index.index (entered c.in_ok-tests.tests.items)
    (subst (λ (l : List (List (List ℕ))). (path : List (List ℕ)) → Contains c.of-paths.result path ↔ Contains l path) items c.of-paths.ensures.same) past
    c.loop-place.invariant.1 tests c.in_ok-index.ensures
