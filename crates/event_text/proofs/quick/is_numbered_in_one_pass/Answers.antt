use Rattle.std.proofs.Common.{sym, ◌∙◌, length, eqb-true}
use Rattle.std.proofs.lemmas.List.{nil_from_length}
use Rattle.event_text.proofs.NumberedLemmas.{whole}
use Rattle.event_text.proofs.quick.is_numbered_in_one_pass.Goals as goal

pub returns-in-Some : goal.returns-in-Some
returns-in-Some c = λ holds.
    let rest = c.in-Some.rest.now in
    whole c.args.text.now rest c.in-Some.ensures (nil_from_length rest (eqb-true (length rest) 0 (sym c.is_empty.ensures ∙ holds)))
