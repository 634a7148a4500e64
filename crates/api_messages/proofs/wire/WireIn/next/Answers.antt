use Rattle.std.proofs.Common.{ℕ, List, sym, refl, ap, ◌∙◌, subst}
use Rattle.std.proofs.lemmas.Result.{err_from_is_err_and}
use Rattle.api_messages.specs.Messages.{IsRefused}
use Rattle.api_messages.specs.Reading.{Incoming, IsMessageAt, message_at}
use Rattle.api_messages.proofs.FrontLemmas.{holds_at}
use Rattle.api_messages.proofs.wire.WireIn.next.Goals as goal

pub returns-in-Some-clause-answers : goal.returns-in-Some-clause-answers
returns-in-Some-clause-answers c =
    let same = ap (λ (v : Incoming). v.refused) (sym c.self.view_is) ∙ c.in-Some.is in (
      subst (λ (v : Incoming). IsRefused v.rest c.in-Some.why) c.self.view_is (c.self.invariant.1 c.in-Some.why c.in-Some.is),
      λ i. record { rest = c.args.self.now.rest; refused = same i; room = c.args.self.now.room },
    )

pub returns-in_err-message-in-Whole-clause-answers : goal.returns-in_err-message-in-Whole-clause-answers
returns-in_err-message-in-Whole-clause-answers c =
    let p = err_from_is_err_and c.from_residual.result c.from_residual.ensures.1 in
    let at = subst (λ (b : List ℕ). IsMessageAt b c.in-Whole.found) c.rest.ensures c.in-Whole.ensures in
    rw (p.1, p.2) ((message_at c.in-Whole.found, _, holds_at _ _ at), refl)
