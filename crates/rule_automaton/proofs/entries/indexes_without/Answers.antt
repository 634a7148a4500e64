use Rattle.std.proofs.Common.{◌≡◌, ◌+◌, ◌++◌, ◌∷◌, [], List, length, ap, sym, ◌∙◌, subst, arith}
use Rattle.std.specs.Option.{option_copied}
use Rattle.std.proofs.lemmas.List.{length_push}
use Rattle.std.specs.declared.alloc.Global.{Global}
use Rattle.std.specs.declared.sync.Arc.{Arc}
use Rattle.value_index.specs.declared.index.PathIndex.{PathIndex}
use Rattle.rule_automaton.specs.Table.{ExactBelow, entries_found, entries_in, others}
use Rattle.rule_automaton.proofs.TableLemmas.{exact_more, at_number, other_at}
use Rattle.rule_automaton.proofs.entries.indexes_without.Goals as goal

pub loop-place-preserved : goal.loop-place-preserved
loop-place-preserved c =
    let indexes = c.loop-place.indexes.items in
    let paths = c.args.paths.now in
    let n = c.loop-place.place in
    let made = c.in_ok-index.index in
    let keys = c.path-keys.result.now in
    let number = c.args.number in
    let grown : c.push.new.self.items ≡ indexes ++ made ∷ [] = c.in_ok-push.ensures.items in
    let many = c.loop-place.invariant.0 in (
      ap length grown ∙ length_push indexes made ∙ omega (arith, many),
      λ all is.
          subst (λ (l : List (Arc PathIndex Global)). ExactBelow (others number all) paths l (n + 1)) (sym grown)
          (exact_more (others number all) paths indexes n made many (c.loop-place.invariant.1 all is)
          (at_number (others number all) paths n keys (entries_in made) (omega (arith, c.loop-place-test.true, c.len-place-end.ensures)) c.path-keys.ensures
          (other_at number all keys (entries_found (option_copied c.at-found.result)) (entries_in made) (c.at-found.ensures all is) c.in_ok-index.ensures))),
    )

pub returns-clause-exact : goal.returns-clause-exact
returns-clause-exact c = λ all is place path index within. c.loop-place.invariant.1 all is place path index (omega (arith, within, c.loop-place-test.false))
