use Rattle.std.proofs.Common.{◌≡◌, List, ℕ, Option, Some, sym, refl, ap, ◌∙◌, subst}
use Rattle.std.specs.Option.{option_copied}
use Rattle.std.proofs.lemmas.Result.{IfOk-weaker}
use Rattle.json_text.specs.Tree.{Tree}
use Rattle.bus_policy.specs.Verdict.{IsVerdict}
use Rattle.bus_policy.specs.View.{verdict_of}
use Rattle.router_requests.specs.Verdict.{IsPolicyOf, asker_for}
use Rattle.router_requests.proofs.matching.policy_verdict.Goals as goal

pub returns-in-Some : goal.returns-in-Some
returns-in-Some c =
    let value : Tree = c.policy-in-Some.result.now in
    let there : Some c.in-Some.policy.now ≡ c.args.bus.now.policy = ap option_copied (sym c.in-Some.is) ∙ c.policy.ensures in
    let is : IsPolicyOf c.args.bus.now.policy (Some value) =
    subst (λ (p : Option (List ℕ)). IsPolicyOf p (Some value)) there (value, c.policy-in-Some.ensures.read, refl) in
    let says : IsVerdict value (asker_for c.args.caller.now c.args.event.now) (verdict_of c.decide.result) =
    rw (sym c.bus.ensures, sym c.source.ensures, sym c.detail_type.ensures) c.decide.ensures in
    IfOk-weaker c.owned.result _ _ (λ seen same. (Some value, verdict_of c.decide.result, is, says, same)) c.owned.ensures
