use Rattle.std.proofs.Common.{sym, ◌∙◌, ap}
use Rattle.std.specs.List.{list_any}
use Rattle.std.specs.Prelude.{not, ◌==◌}
use Rattle.value_index.specs.Index.{entries_of}
use Rattle.rule_automaton.proofs.TableLemmas.{Marked, no_other}
use Rattle.rule_automaton.proofs.entries.has_others.Goals as goal

pub returns : goal.returns
returns c = λ none.
    no_other c.in_ok-tests.tests.items c.args.number (entries_of c.args.index.now)
    (ap (list_any (λ (t : Marked). not (t.1 == c.args.number))) (sym c.deref.ensures.value) ∙ sym c.has_other_mark-has.ensures ∙ none) c.in_ok-tests.ensures
