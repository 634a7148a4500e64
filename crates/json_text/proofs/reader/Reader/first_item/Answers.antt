use Rattle.std.proofs.Common.{reverse, ◌∙◌, ◌∷◌, [], refl, sym, ap, arith, subst}
use Rattle.json_text.specs.{Kept.KeepsAll, Kept.repeat_of, declared.state.Kept.TheVariants.List as kept_list, Tree.list, Tree.items_of, View.trees_of}
use Rattle.json_text.specs.{Node.list_node, Node.no_nodes, Reading.step, Reading.put, Reading.value, Reading.first_item, Reading.in_list}
use Rattle.json_text.proofs.{ViewLemmas.tree_of_list, KeptLemmas.first_of-none, KeptLemmas.keeps_more}
use Rattle.json_text.proofs.StepLemmas.{alike, first_item_goes, goes_same, goes_by}
use Rattle.json_text.proofs.reader.Reader.first_item.Goals as goal

pub returns-then-byte-eq93-clause-goes : goal.returns-then-byte-eq93-clause-goes
returns-then-byte-eq93-clause-goes c outer kept r =
    goes_by c.args.self.now.levels (first_item outer) (first_item outer) c.args.byte c.args.place refl c.requires.first _ (put (list_node no_nodes) outer)
    c.after.result (c.in_ok-next.ensures.ok (list_node no_nodes) outer (tree_of_list c.new.result
    ∙ ap (λ js. list (items_of (trees_of js))) c.new.ensures.items) kept (r ∙ sym (first_of-none (repeat_of outer))))
    (ap (step c.args.self.now.levels c.args.place.at (first_item outer)) c.if-byte-eq93.true) c.after.ensures.at c.after.ensures.rest

pub returns-clause-goes : goal.returns-clause-goes
returns-clause-goes c outer kept r = goes_same c.args.self.now.levels (first_item outer)
    (value (in_list [] ∷ outer)) c.args.place c.value.result c.value.new.self.waiting.items c.value.new.self.repeat
    (alike c.args.self.now.levels c.args.place.at (first_item outer) (value (in_list [] ∷ outer)) c.args.byte c.args.place.rest.now c.requires.first
    (first_item_goes c.args.self.now.levels c.args.place.at outer c.args.byte c.requires.no_space (omega arith))) (c.value.ensures.goes (in_list [] ∷ outer)
    (subst (λ ks. KeepsAll (reverse ks) (in_list [] ∷ outer)) (sym c.in_ok-push.ensures.items)
    (keeps_more c.args.self.now.waiting.items (kept_list c.new-2.result) outer (in_list []) kept (ap trees_of c.new-2.ensures.items)))
    (r ∙ sym (first_of-none (repeat_of outer))))
