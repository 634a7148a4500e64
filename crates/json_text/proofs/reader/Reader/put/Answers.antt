use Rattle.std.proofs.Common.{◌∙◌, ◌++◌, ◌∷◌, [], ap}
use Rattle.json_text.specs.{Objects.with_value, View.tree_of, View.pairs_of}
use Rattle.json_text.proofs.KeptLemmas.{put_in_list, put_in_object}
use Rattle.json_text.proofs.reader.Reader.put.Goals as goal

pub returns-in_ok-push-in-Some-List-clause-ok : goal.returns-in_ok-push-in-Some-List-clause-ok
returns-in_ok-push-in-Some-List-clause-ok c n outer is kept r =
    put_in_list c.pop.new.self.items c.args.self.now.waiting.items c.in-Some-List.items c.push.new.self.items c.args.json n outer c.args.self.now.repeat
    (c.in-Some-List.ensures.items ∙ ap (λ k. c.pop.new.self.items ++ k ∷ []) c.in-Some-List.field-0-is) c.in_ok-push-in-Some-List.ensures.items is kept r

pub returns-in-Some-Object-clause-ok : goal.returns-in-Some-Object-clause-ok
returns-in-Some-Object-clause-ok c n outer is kept r =
    put_in_object c.pop.new.self.items c.args.self.now.waiting.items c.in-Some-Object.field-0-0 c.set.new.self.members.items c.args.json n outer
    c.args.self.now.repeat (c.in-Some-Object.ensures.items ∙ ap (λ k. c.pop.new.self.items ++ k ∷ []) c.in-Some-Object.field-0-is)
    (c.set.ensures ∙ ap (λ o. with_value c.in-Some-Object.field-0-0.slot (tree_of c.args.json) (pairs_of o.members.items)) c.deref_mut.ensures.value) is kept r
