use Rattle.std.proofs.Common.{refl, ap, ◌++◌, ◌∙◌, sym}
use Rattle.input_transform.specs.Letters.{plain, token_letters}
use Rattle.input_transform.proofs.RewriteLemmas.{token_plain}
use Rattle.input_transform.proofs.rewriting.push_plain.Goals as goal

pub returns-in-Ok-clause-found : goal.returns-in-Ok-clause-found
returns-in-Ok-clause-found c paths = (plain c.args.byte, (refl, (c.requires.no_string, c.requires.no_name)), c.in-Ok.ensures.ok)

pub returns-in-Ok-clause-only : goal.returns-in-Ok-clause-only
returns-in-Ok-clause-only c paths t after h =
    let k = token_plain paths c.args.byte c.args.rest.now t after c.requires.no_string c.requires.no_name h in
    (k.1, c.in-Ok.ensures.ok ∙ ap (λ x. c.args.out.now ++ token_letters x) (sym k.0))
