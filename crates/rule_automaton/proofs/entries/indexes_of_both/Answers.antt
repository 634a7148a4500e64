use Rattle.std.proofs.Common.{◌≡◌, ◌+◌, ◌++◌, ◌∷◌, [], List, length, ap, sym, ◌∙◌, subst, arith}
use Rattle.std.specs.Option.{option_copied}
use Rattle.std.proofs.lemmas.List.{length_push}
use Rattle.std.specs.declared.alloc.Global.{Global}
use Rattle.std.specs.declared.sync.Arc.{Arc}
use Rattle.value_index.specs.declared.index.PathIndex.{PathIndex}
use Rattle.rule_automaton.specs.Table.{ExactBelow, entries_found, entries_in}
use Rattle.rule_automaton.proofs.TableLemmas.{exact_more, at_number, both_at}
use Rattle.rule_automaton.proofs.entries.indexes_of_both.Goals as goal

pub loop-number-preserved : goal.loop-number-preserved
loop-number-preserved c =
    let indexes = c.loop-number.indexes.items in
    let paths = c.args.paths.now in
    let n = c.loop-number.number in
    let made = c.in_ok-index.index in
    let keys = c.path-keys.result.now in
    let grown : c.push.new.self.items ≡ indexes ++ made ∷ [] = c.in_ok-push.ensures.items in
    let many = c.loop-number.invariant.0 in (
      ap length grown ∙ length_push indexes made ∙ omega (arith, many),
      λ all more left right.
          subst (λ (l : List (Arc PathIndex Global)). ExactBelow (all ++ more) paths l (n + 1)) (sym grown)
          (exact_more (all ++ more) paths indexes n made many (c.loop-number.invariant.1 all more left right)
          (at_number (all ++ more) paths n keys (entries_in made) (omega (arith, c.loop-number-test.true, c.len-number-end.ensures)) c.path-keys.ensures
          (both_at all more keys (entries_found (option_copied c.at-one.result)) (entries_found (option_copied c.at-more.result)) (entries_in made)
          (c.at-one.ensures all left) (c.at-more.ensures more right) c.in_ok-index.ensures))),
    )

pub returns-clause-exact : goal.returns-clause-exact
returns-clause-exact c = λ all more left right place path index within.
    c.loop-number.invariant.1 all more left right place path index (omega (arith, within, c.loop-number-test.false))
