use Rattle.std.proofs.Common.{◌++◌, sym, ap, ◌∙◌}
use Rattle.input_transform.specs.Letters.{string, token_letters}
use Rattle.input_transform.proofs.RewriteLemmas.{string_begins, string_only}
use Rattle.input_transform.proofs.rewriting.push_string.Goals as goal

pub returns-in-Ok-clause-found : goal.returns-in-Ok-clause-found
returns-in-Ok-clause-found c paths =
    (string c.in-Some.inside.now, string_begins paths c.args.bytes.now c.in-Some.inside.now c.in-Some.rest.now c.in-Some.ensures.0 c.in-Some.ensures.1, c.in-Ok.ensures)

pub returns-in-Ok-clause-only : goal.returns-in-Ok-clause-only
returns-in-Ok-clause-only c paths t after h =
    let k = string_only paths c.args.bytes.now c.in-Some.inside.now c.in-Some.rest.now t after c.in-Some.ensures.0 c.in-Some.ensures.1 h in
    (k.0, c.in-Ok.ensures ∙ ap (λ x. c.args.out.now ++ token_letters x) (sym k.1))
