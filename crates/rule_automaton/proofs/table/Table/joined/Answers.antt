use Rattle.std.proofs.Common.{◌≡◌, ◌++◌, ap, sym, ◌∙◌, subst, arith, length}
use Rattle.std.specs.Prelude.{Contains}
use Rattle.rule_automaton.proofs.TableLemmas.{covers_both, table_made}
use Rattle.rule_automaton.proofs.table.Table.joined.Goals as goal

pub returns : goal.returns
returns c = λ all more left right.
    let items : c.add_paths-2.new.copies.items ≡ c.args.self.now.paths ++ c.args.other.now.paths = c.in_ok-add_paths-2.ensures
    ∙ ap (λ l. l ++ c.args.other.now.paths) (c.in_ok-add_paths.ensures ∙ ap (λ l. l ++ c.args.self.now.paths) c.new-paths.ensures.items) in
    table_made (all ++ more) _ (length c.of-paths.result) (omega arith)
    (covers_both all more c.args.self.now c.args.other.now c.of-paths.result (λ path h. (c.of-paths.ensures.same path).1 (subst (λ l. Contains l path) (sym items) h)) left right)
    (c.in_ok-indexes.ensures.exact all more left right)
