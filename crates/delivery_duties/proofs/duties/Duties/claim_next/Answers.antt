use Rattle.std.proofs.Common.{sym, subst}
use Rattle.delivery_duties.specs.Duties.{IsOut}
use Rattle.delivery_duties.proofs.StepLemmas.{sound_claimed, claimed_out, claims_keep}
use Rattle.delivery_duties.proofs.duties.Duties.claim_next.Goals as goal

pub invariant_of-self-2 : goal.invariant_of-self-2
invariant_of-self-2 c = sound_claimed c.in_ok-number.number c.claim_first.new.self c.self.invariant c.in_ok-number.ensures.some.1

pub returns-clause-out : goal.returns-clause-out
returns-clause-out c = claimed_out c.in_ok-number.number c.claim_first.new.self c.self.invariant c.in_ok-number.ensures.some.1

pub returns-clause-still_out : goal.returns-clause-still_out
returns-clause-still_out c = λ n out.
    claims_keep c.in_ok-number.number c.claim_first.new.self c.self.invariant c.in_ok-number.ensures.some.1 n (subst (IsOut n) (sym c.self.view_is) out)
