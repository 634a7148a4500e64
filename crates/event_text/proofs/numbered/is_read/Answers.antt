use Rattle.std.proofs.Common.{◌≡◌, ap, sym, ◌∙◌, arith}
use Rattle.std.proofs.lemmas.Bool.{false≢true}
use Rattle.std.proofs.lemmas.Bool.Decides.{nat_tests}
use Rattle.event_shape.specs.Event.{Event}
use Rattle.event_shape.specs.Names.{is_account}
use Rattle.event_text.proofs.NumberedLemmas.{same_event, text_found, text_is_none}
use Rattle.event_text.proofs.numbered.is_read.Goals as goal

pub returns-then-number-eq0 : goal.returns-then-number-eq0
returns-then-number-eq0 c = (
  λ f. absurd (false≢true f),
  λ numbered.
      let same = same_event c.args.text.now c.in-Ok.found c.in-Some.event c.in-Ok.ensures.only c.in-Some.is numbered in
      let none : c.number.result ≡ 0 = grind (arith, nat_tests, c.if-number-eq0.true) in
      absurd (omega (arith, numbered.2, none, c.number.ensures, ap (λ (e : Event). e.number) same)),
)

pub returns-else-number-eq0 : goal.returns-else-number-eq0
returns-else-number-eq0 c =
    let account = c.is_account.ensures ∙ ap is_account c.account.ensures in (
      λ holds. (
        c.in-Some.event,
        text_found c.args.text.now c.in-Ok.found c.in-Some.event c.in-Ok.ensures.found c.in-Some.is,
        grind (arith, nat_tests, c.if-number-eq0.false, c.number.ensures),
        sym account ∙ holds,
      ),
      λ numbered.
          let same = same_event c.args.text.now c.in-Ok.found c.in-Some.event c.in-Ok.ensures.only c.in-Some.is numbered in
          account ∙ ap (λ (e : Event). is_account e.account) same ∙ numbered.3,
    )

pub returns-in-None : goal.returns-in-None
returns-in-None c = (
  λ f. absurd (false≢true f),
  λ numbered. absurd (text_is_none c.args.text.now c.in-Ok.found c.in-Ok.ensures.only c.in-None.is numbered),
)
