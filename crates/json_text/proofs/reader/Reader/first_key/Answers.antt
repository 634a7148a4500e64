use Rattle.std.proofs.Common.{◌∙◌, [], refl, sym, ap, arith}
use Rattle.json_text.specs.{Tree.object, Tree.members_of, View.pairs_of, Node.object_node, Node.no_fields, Kept.repeat_of}
use Rattle.json_text.specs.Reading.{step, put, first_key, next_key}
use Rattle.json_text.proofs.{ViewLemmas.tree_of_object, KeptLemmas.first_of-none}
use Rattle.json_text.proofs.StepLemmas.{alike, first_key_other, goes_same, goes_by, barred}
use Rattle.json_text.proofs.reader.Reader.first_key.Goals as goal

pub returns-in_ok-object-in-34-clause-goes : goal.returns-in_ok-object-in-34-clause-goes
returns-in_ok-object-in-34-clause-goes c outer kept r =
    goes_same c.args.self.now.levels (first_key outer) (next_key [] outer) c.args.place c.key.result c.key.new.self.waiting.items c.key.new.self.repeat
    (alike c.args.self.now.levels c.args.place.at (first_key outer) (next_key [] outer) c.args.byte c.args.place.rest.now c.requires.first
    (ap (step c.args.self.now.levels c.args.place.at (first_key outer)) c.in-34.is
    ∙ ap (step c.args.self.now.levels c.args.place.at (next_key [] outer)) (sym c.in-34.is)))
    (c.key.ensures.goes [] outer kept (r ∙ sym (first_of-none (repeat_of outer)))
    (ap (λ o. pairs_of o.members.items) c.in_ok-object-in-34.ensures.ok ∙ c.new.ensures))

pub returns-in_ok-next-in-125-clause-goes : goal.returns-in_ok-next-in-125-clause-goes
returns-in_ok-next-in-125-clause-goes c outer kept r = let n = object_node no_fields in
    goes_by c.args.self.now.levels (first_key outer) (first_key outer) c.args.byte c.args.place refl c.requires.first _ (put n outer) c.after.result
    (c.in_ok-next-in-125.ensures.ok n outer (tree_of_object c.new-in-125.result ∙ ap (λ ms. object (members_of (pairs_of ms))) c.new-in-125.ensures.items) kept
    (r ∙ sym (first_of-none (repeat_of outer)))) (ap (step c.args.self.now.levels c.args.place.at (first_key outer)) c.in-125.is)
    c.after.ensures.at c.after.ensures.rest

pub returns-in_default-clause-goes : goal.returns-in_default-clause-goes
returns-in_default-clause-goes c outer kept r =
    barred c.args.self.now.levels (first_key outer) (first_key outer) c.args.byte c.args.place refl c.requires.first c.not_json.result
    (first_key_other c.args.self.now.levels c.args.place.at outer c.args.byte c.requires.no_space (omega arith) (omega arith)) c.not_json.ensures
