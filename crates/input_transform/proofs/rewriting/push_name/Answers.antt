use Rattle.std.proofs.Common.{◌++◌, ap, ◌∙◌, sym}
use Rattle.std.proofs.lemmas.Bool.{false≢true}
use Rattle.std.proofs.lemmas.Option.{none-some}
use Rattle.input_transform.specs.Letters.{name, token_letters}
use Rattle.input_transform.proofs.RewriteLemmas.{name_only, name_begins, no_mark}
use Rattle.input_transform.proofs.rewriting.push_name.Goals as goal

pub returns-then-is_colon_next-clause-only : goal.returns-then-is_colon_next-clause-only
returns-then-is_colon_next-clause-only c t after h =
    let k = name_only c.args.paths.now c.args.bytes.now c.in-Some.name.now c.in-Some.rest.now t after c.in-Some.ensures.0 c.in-Some.ensures.1 h in
    absurd (false≢true (sym k.2.2 ∙ sym c.is_colon_next.ensures ∙ c.if-is_colon_next.true))

pub returns-in-Ok-clause-found : goal.returns-in-Ok-clause-found
returns-in-Ok-clause-found c =
    let h = c.in-Some-known_named.ensures in (
      name c.in-Some.name.now,
      name_begins c.args.paths.now c.args.bytes.now c.in-Some.name.now c.in-Some.rest.now c.in-Some.ensures.1
          (h.0, h.1, sym c.is_colon_next.ensures ∙ c.if-is_colon_next.false),
      c.in-Ok.ensures,
    )

pub returns-in-Ok-clause-only : goal.returns-in-Ok-clause-only
returns-in-Ok-clause-only c t after h =
    let k = name_only c.args.paths.now c.args.bytes.now c.in-Some.name.now c.in-Some.rest.now t after c.in-Some.ensures.0 c.in-Some.ensures.1 h in
    (k.0, c.in-Ok.ensures ∙ ap (λ x. c.args.out.now ++ token_letters x) (sym k.1))

pub returns-in-None-known_named-clause-only : goal.returns-in-None-known_named-clause-only
returns-in-None-known_named-clause-only c t after h =
    let k = name_only c.args.paths.now c.args.bytes.now c.in-Some.name.now c.in-Some.rest.now t after c.in-Some.ensures.0 c.in-Some.ensures.1 h in
    absurd (none-some k.2.0 (sym c.in-None-known_named.ensures ∙ k.2.1))

pub returns-in-None-clause-only : goal.returns-in-None-clause-only
returns-in-None-clause-only c t after h = absurd (no_mark c.args.paths.now c.args.bytes.now t after c.in-None.ensures h)
