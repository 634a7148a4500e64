use Rattle.std.proofs.Common.{◌++◌, ap, sym, ◌∙◌, append-nil}
use Rattle.std.proofs.lemmas.Result.{on_ok_weaker}
use Rattle.json_text.specs.View.{tree_of}
use Rattle.event_flatten.proofs.walk.add.Goals as goal

pub returns-in-Some : goal.returns-in-Some
returns-in-Some c =
    on_ok_weaker c.push.result (λ e. e ∙ ap (λ x. c.args.found.now ++ x) (sym (c.in-Some.ensures (tree_of c.args.scalar.now)))) c.push.ensures

pub returns-in-None : goal.returns-in-None
returns-in-None c =
    sym (ap (λ x. c.args.found.now ++ x) (c.in-None.ensures (tree_of c.args.scalar.now)) ∙ append-nil c.args.found.now)
