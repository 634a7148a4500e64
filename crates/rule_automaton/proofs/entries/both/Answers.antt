use Rattle.std.proofs.Common.{ap, sym, ◌∙◌}
use Rattle.std.specs.Prelude.{Contains, ◌↔◌, ◌⊎◌}
use Rattle.std.specs.Option.{option_copied}
use Rattle.std.proofs.lemmas.Result.{IfOk-weaker}
use Rattle.value_index.specs.Hits.{Entry}
use Rattle.value_index.specs.Index.{entered, entries_of}
use Rattle.rule_automaton.specs.Table.{entries_found, entries_in}
use Rattle.rule_automaton.proofs.TableLemmas.{only_left, only_right, neither, joined_entries}
use Rattle.rule_automaton.proofs.entries.both.Goals as goal

pub returns-in_ok-try_clone-in-Some-None : goal.returns-in_ok-try_clone-in-Some-None
returns-in_ok-try_clone-in-Some-None c =
    only_left (entries_found (option_copied c.args.one)) (entries_found (option_copied c.args.other)) (entries_in c.in_ok-try_clone-in-Some-None.field-0)
    (ap entries_of c.in_ok-try_clone-in-Some-None.ensures ∙ sym (ap (λ o. entries_found (option_copied o)) c.in-Some-None.is-0))
    (ap (λ o. entries_found (option_copied o)) c.in-Some-None.is-1)

pub returns-in_ok-try_clone-in-None-Some : goal.returns-in_ok-try_clone-in-None-Some
returns-in_ok-try_clone-in-None-Some c =
    only_right (entries_found (option_copied c.args.one)) (entries_found (option_copied c.args.other)) (entries_in c.in_ok-try_clone-in-None-Some.field-0)
    (ap (λ o. entries_found (option_copied o)) c.in-None-Some.is-0)
    (ap entries_of c.in_ok-try_clone-in-None-Some.ensures ∙ sym (ap (λ o. entries_found (option_copied o)) c.in-None-Some.is-1))

pub returns-in-None-None : goal.returns-in-None-None
returns-in-None-None c =
    let a = entries_found (option_copied c.args.one) in
    let b = entries_found (option_copied c.args.other) in
    IfOk-weaker c.index_of-in-None-None.result (λ index. (e : Entry) → Contains (entries_in index) e ↔ Contains (entered c.new.result.items) e)
    (λ index. (e : Entry) → Contains (entries_in index) e ↔ (Contains a e ⊎ Contains b e))
    (λ index made. neither a b (entries_in index) (entered c.new.result.items) (ap (λ o. entries_found (option_copied o)) c.in-None-None.is-0)
    (ap (λ o. entries_found (option_copied o)) c.in-None-None.is-1) (ap entered c.new.ensures.items) made)
    c.index_of-in-None-None.ensures

pub returns-in_ok-append-in-Some-Some : goal.returns-in_ok-append-in-Some-Some
returns-in_ok-append-in-Some-Some c =
    let a = entries_found (option_copied c.args.one) in
    let b = entries_found (option_copied c.args.other) in
    let one = c.in_ok-tests-in-Some-Some.tests.items in
    let more = c.in_ok-more-in-Some-Some.more.items in
    let all = c.append.new.self.items in
    IfOk-weaker c.index_of.result (λ index. (e : Entry) → Contains (entries_in index) e ↔ Contains (entered all) e)
    (λ index. (e : Entry) → Contains (entries_in index) e ↔ (Contains a e ⊎ Contains b e))
    (λ index made. joined_entries one more all a b (entries_in index) c.in_ok-append-in-Some-Some.ensures.items
    (c.in_ok-tests-in-Some-Some.ensures ∙ ap entries_of c.deref.ensures ∙ sym (ap (λ o. entries_found (option_copied o)) c.in-Some-Some.is-0))
    (c.in_ok-more-in-Some-Some.ensures ∙ ap entries_of c.deref-in-Some-Some.ensures ∙ sym (ap (λ o. entries_found (option_copied o)) c.in-Some-Some.is-1)) made)
    c.index_of.ensures
