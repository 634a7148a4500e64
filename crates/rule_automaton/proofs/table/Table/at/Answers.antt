use Rattle.std.proofs.Common.{sym, subst, get_or}
use Rattle.rule_automaton.specs.Table.{AreAt, entries_in}
use Rattle.rule_automaton.proofs.TableLemmas.{none_at}
use Rattle.rule_automaton.proofs.table.Table.at.Goals as goal

pub returns-in-None : goal.returns-in-None
returns-in-None c = λ all is. none_at all c.args.self.now c.args.keys.now is c.in-None.ensures

pub returns-in-Some : goal.returns-in-Some
returns-in-Some c = λ all is.
    let table = c.args.self.now in
    let n = c.in-Some.number in
    let index = c.index.result.now in
    let keys = c.args.keys.now in
    subst (λ x. AreAt all keys (entries_in x)) (sym c.index.ensures)
    (subst (λ p. AreAt all p (entries_in (get_or table.indexes.items n index))) c.in-Some.ensures.1 (is.exact n keys index c.in-Some.ensures.0))
