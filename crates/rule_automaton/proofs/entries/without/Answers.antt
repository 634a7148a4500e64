use Rattle.std.proofs.Common.{ap, sym, ◌∙◌}
use Rattle.std.specs.Prelude.{Contains, ◌↔◌, ◌≢◌, ◌==◌}
use Rattle.std.specs.List.{list_any}
use Rattle.std.specs.Option.{option_copied}
use Rattle.std.proofs.lemmas.Result.{IfOk-weaker}
use Rattle.value_index.specs.Hits.{Entry}
use Rattle.value_index.specs.Index.{entered, entries_of}
use Rattle.rule_automaton.specs.Table.{entries_found, entries_in}
use Rattle.rule_automaton.proofs.TableLemmas.{Marked, left_entries, all_left, none_left_of, no_mark}
use Rattle.rule_automaton.proofs.entries.without.Goals as goal

pub returns-in_ok-left-in-Some : goal.returns-in_ok-left-in-Some
returns-in_ok-left-in-Some c =
    let a = entries_found (option_copied c.args.index) in
    let n = c.args.number in
    let tests = c.in_ok-tests-in-Some.tests.items in
    let left = c.in_ok-left-in-Some.left.items in
    IfOk-weaker c.index_of.result (λ index. (e : Entry) → Contains (entries_in index) e ↔ Contains (entered left) e)
    (λ index. (e : Entry) → Contains (entries_in index) e ↔ (Contains a e × (e.1 ≢ n)))
    (λ index made. left_entries tests left n a (entries_in index) c.in_ok-left-in-Some.ensures
    (c.in_ok-tests-in-Some.ensures ∙ ap entries_of c.deref.ensures ∙ sym (ap (λ o. entries_found (option_copied o)) c.in-Some.is)) made)
    c.index_of.ensures

pub returns-in_ok-shared-in-Some : goal.returns-in_ok-shared-in-Some
returns-in_ok-shared-in-Some c =
    let a = entries_found (option_copied c.args.index) in
    let n = c.args.number in
    let tests = c.in_ok-tests-in-Some.tests.items in
    let found = ap (λ o. entries_found (option_copied o)) c.in-Some.is in
    all_left a (entries_in c.in_ok-shared-in-Some.shared) n (ap entries_of c.in_ok-shared-in-Some.ensures ∙ sym found)
    (no_mark tests n a (ap (list_any (λ (t : Marked). t.1 == n)) (sym c.deref-in-Some.ensures.value) ∙ sym c.has_mark.ensures ∙ c.if-has_mark.false)
    (c.in_ok-tests-in-Some.ensures ∙ ap entries_of c.deref.ensures ∙ sym found))

pub returns-in-None : goal.returns-in-None
returns-in-None c =
    let a = entries_found (option_copied c.args.index) in
    IfOk-weaker c.index_of-in-None.result (λ index. (e : Entry) → Contains (entries_in index) e ↔ Contains (entered c.new.result.items) e)
    (λ index. (e : Entry) → Contains (entries_in index) e ↔ (Contains a e × (e.1 ≢ c.args.number)))
    (λ index made. none_left_of a (entries_in index) (entered c.new.result.items) c.args.number (ap (λ o. entries_found (option_copied o)) c.in-None.is)
    (ap entered c.new.ensures.items) made)
    c.index_of-in-None.ensures
