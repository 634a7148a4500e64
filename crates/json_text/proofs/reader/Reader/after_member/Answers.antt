use Rattle.std.proofs.Common.{◌∙◌, refl, ap, arith}
use Rattle.json_text.specs.{Tree.object, Tree.members_of, View.pairs_of, Node.object_node}
use Rattle.json_text.specs.Reading.{step, put, next_key, after_member, fields_of}
use Rattle.json_text.proofs.{ViewLemmas.tree_of_object, StepLemmas.member_other, StepLemmas.goes_by, StepLemmas.barred}
use Rattle.json_text.proofs.reader.Reader.after_member.Goals as goal

pub returns-in-44-clause-goes : goal.returns-in-44-clause-goes
returns-in-44-clause-goes c s st =
    goes_by c.args.self.now.levels s (after_member st.0 st.1) c.args.byte c.args.place st.2 c.requires.first _ (next_key st.0 st.1) c.after.result
    (st.0, st.1, refl, st.3, st.4, st.5) (ap (step c.args.self.now.levels c.args.place.at (after_member st.0 st.1)) c.in-44.is)
    c.after.ensures.at c.after.ensures.rest

pub returns-in_ok-next-in-125-clause-goes : goal.returns-in_ok-next-in-125-clause-goes
returns-in_ok-next-in-125-clause-goes c s st = let n = object_node (fields_of st.0) in
    goes_by c.args.self.now.levels s (after_member st.0 st.1) c.args.byte c.args.place st.2 c.requires.first _ (put n st.1) c.after-in-125.result
    (c.in_ok-next-in-125.ensures.ok n st.1 (tree_of_object c.into_inner-members.result.members
    ∙ ap (λ o. object (members_of (pairs_of o.members.items))) c.into_inner-members.ensures ∙ ap (λ ms. object (members_of ms)) st.5) st.3 st.4)
    (ap (step c.args.self.now.levels c.args.place.at (after_member st.0 st.1)) c.in-125.is) c.after-in-125.ensures.at c.after-in-125.ensures.rest

pub returns-in_default-clause-goes : goal.returns-in_default-clause-goes
returns-in_default-clause-goes c s st =
    barred c.args.self.now.levels s (after_member st.0 st.1) c.args.byte c.args.place st.2 c.requires.first c.not_json.result
    (member_other c.args.self.now.levels c.args.place.at st.0 st.1 c.args.byte c.requires.no_space (omega arith) (omega arith)) c.not_json.ensures
