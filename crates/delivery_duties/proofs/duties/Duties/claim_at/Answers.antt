use Rattle.std.proofs.Common.{sym, subst}
use Rattle.delivery_duties.specs.Duties.{IsOut}
use Rattle.delivery_duties.proofs.StepLemmas.{sound_claimed, claimed_out, claims_keep}
use Rattle.delivery_duties.proofs.duties.Duties.claim_at.Goals as goal

pub invariant_of-self : goal.invariant_of-self
invariant_of-self c = sound_claimed c.args.number c.claim.new.self c.self.invariant c.claim.ensures

pub returns-clause-out : goal.returns-clause-out
returns-clause-out c = claimed_out c.args.number c.claim.new.self c.self.invariant c.claim.ensures

pub returns-clause-still_out : goal.returns-clause-still_out
returns-clause-still_out c = λ n out.
    claims_keep c.args.number c.claim.new.self c.self.invariant c.claim.ensures n (subst (IsOut n) (sym c.self.view_is) out)
