use Rattle.std.proofs.Common.{reverse, ◌∙◌, ◌∷◌, refl, sym, ap, arith, subst}
use Rattle.json_text.specs.{Kept.KeepsAll, declared.state.Kept.TheVariants.List as kept_list, Tree.list, Tree.items_of, Node.list_node}
use Rattle.json_text.specs.Reading.{step, put, value, after_item, in_list, nodes_of}
use Rattle.json_text.proofs.{ViewLemmas.tree_of_list, KeptLemmas.keeps_more, KeptLemmas.values_of-nodes}
use Rattle.json_text.proofs.StepLemmas.{item_other, goes_by, barred}
use Rattle.json_text.proofs.reader.Reader.after_item.Goals as goal

pub returns-in_ok-push-in-44-clause-goes : goal.returns-in_ok-push-in-44-clause-goes
returns-in_ok-push-in-44-clause-goes c s st = let kept = subst (λ ks. KeepsAll (reverse ks) (in_list st.0 ∷ st.1)) (sym c.in_ok-push-in-44.ensures.items)
    (keeps_more c.args.self.now.waiting.items (kept_list c.args.items) st.1 (in_list st.0) st.3 st.5) in
    goes_by c.args.self.now.levels s (after_item st.0 st.1) c.args.byte c.args.place st.2 c.requires.first _ (value (in_list st.0 ∷ st.1)) c.after.result
    (in_list st.0 ∷ st.1, refl, kept, st.4) (ap (step c.args.self.now.levels c.args.place.at (after_item st.0 st.1)) c.in-44.is)
    c.after.ensures.at c.after.ensures.rest

pub returns-in_ok-next-in-93-clause-goes : goal.returns-in_ok-next-in-93-clause-goes
returns-in_ok-next-in-93-clause-goes c s st = let n = list_node (nodes_of st.0) in
    goes_by c.args.self.now.levels s (after_item st.0 st.1) c.args.byte c.args.place st.2 c.requires.first _ (put n st.1) c.after-in-93.result
    (c.in_ok-next-in-93.ensures.ok n st.1 (tree_of_list c.args.items ∙ ap (λ ts. list (items_of ts)) (st.5 ∙ sym (values_of-nodes st.0))) st.3 st.4)
    (ap (step c.args.self.now.levels c.args.place.at (after_item st.0 st.1)) c.in-93.is) c.after-in-93.ensures.at c.after-in-93.ensures.rest

pub returns-in_default-clause-goes : goal.returns-in_default-clause-goes
returns-in_default-clause-goes c s st = barred c.args.self.now.levels s (after_item st.0 st.1) c.args.byte c.args.place st.2 c.requires.first c.not_json.result
    (item_other c.args.self.now.levels c.args.place.at st.0 st.1 c.args.byte c.requires.no_space (omega arith) (omega arith)) c.not_json.ensures
