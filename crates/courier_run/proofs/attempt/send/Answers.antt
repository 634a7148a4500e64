use Rattle.std.proofs.Common.{rules, ◌≡◌, ℕ, [], ◌∷◌, sym, subst}
use Rattle.router_disk.specs.Faults.{Rose}
use Rattle.delivery_duties.specs.declared.outcome.Outcome.TheVariants.{Accepted, Code}
use Rattle.courier_run.specs.Claim.{accepted, refused, unanswered}
use Rattle.courier_run.specs.Link.{IsTried, exchange_with, success, refusal, silence}
use Rattle.courier_run.proofs.ActLemmas.{sent_by}
use Rattle.courier_run.proofs.attempt.send.Goals as goal

pub returns-then-is_success-clause-tried : goal.returns-then-is_success-clause-tried
returns-then-is_success-clause-tried g c =
    let claim = g.H.HeldDuty.shows c.args.held.now in
    let same : g.L.Link.faults c.send.new.self ≡ g.L.Link.faults c.args.link.now = c.in-Ok.ensures.count.same in
    let P : ℕ → Type 0 = λ n. IsTried claim (g.L.Link.faults c.args.link.now) Accepted (exchange_with claim c.in-Ok.code ∷ []) n in (
      exchange_with claim c.in-Ok.code ∷ [],
      sent_by claim _ _ c.endpoint.result.now c.text.result.now c.in-Ok.code c.endpoint.ensures c.text.ensures c.in-Ok.ensures.exchanges,
      subst P (sym same) (success c.requires c.in-Ok.code (search rules)),
    )

pub returns-else-is_success-clause-tried : goal.returns-else-is_success-clause-tried
returns-else-is_success-clause-tried g c =
    let claim = g.H.HeldDuty.shows c.args.held.now in
    let same : g.L.Link.faults c.send.new.self ≡ g.L.Link.faults c.args.link.now = c.in-Ok.ensures.count.same in
    let P : ℕ → Type 0 = λ n. IsTried claim (g.L.Link.faults c.args.link.now) (Code c.in-Ok.code) (exchange_with claim c.in-Ok.code ∷ []) n in (
      exchange_with claim c.in-Ok.code ∷ [],
      sent_by claim _ _ c.endpoint.result.now c.text.result.now c.in-Ok.code c.endpoint.ensures c.text.ensures c.in-Ok.ensures.exchanges,
      subst P (sym same) (refusal c.requires c.in-Ok.code (search rules)),
    )

pub returns-in-Err-Failed-clause-tried : goal.returns-in-Err-Failed-clause-tried
returns-in-Err-Failed-clause-tried g c =
    let claim = g.H.HeldDuty.shows c.args.held.now in
    let rose : Rose (g.L.Link.faults c.args.link.now) (g.L.Link.faults c.send.new.self) = search rules in (
      [],
      c.in-Err-Failed.ensures.exchanges,
      silence c.requires (g.L.Link.faults c.send.new.self) c.in-Err-Failed.ensures.count.later rose,
    )

pub returns-then-is_success-clause-fits : goal.returns-then-is_success-clause-fits
returns-then-is_success-clause-fits g c = accepted c.requires

pub returns-else-is_success-clause-fits : goal.returns-else-is_success-clause-fits
returns-else-is_success-clause-fits g c = refused c.requires c.in-Ok.code (search rules)

pub returns-in-Err-Failed-clause-fits : goal.returns-in-Err-Failed-clause-fits
returns-in-Err-Failed-clause-fits g c = unanswered c.requires
