-- What is decided by the policy of a bus that is there: `by_policy`.
use Rattle.std.proofs.Common.{◌≡◌, ℕ, true, List, Option, Some, is_some, sym, refl, ap, ◌∙◌, subst}
use Rattle.json_text.specs.Tree.{Tree}
use Rattle.name_rows.specs.Rows.{named}
use Rattle.rule_table.specs.RuleSet.{Bus, RuleSet, has_bus}
use Rattle.router_requests.specs.Verdict.{IsPolicyOf}
use Rattle.resource_calls.specs.Decision.{Decided}
use Rattle.router_calls.specs.Permission.{IsPolicyThere}
use Rattle.router_calls.specs.Steps.{IsByPolicy}

-- the bus is there, and has this policy
pub by_policy : (on set : RuleSet) (at bus : List ℕ) (b : Bus) (policy : Option Tree) (decide : Option Tree → Decided) (d : Decided) → on ≡ set
    → at ≡ bus → named (λ (x : Bus). x.name) at on.buses ≡ Some b → IsPolicyOf b.policy policy → d ≡ decide policy → IsByPolicy set bus decide d
by_policy on set at bus b policy decide d same named_so there of is =
    let found : named (λ (x : Bus). x.name) bus set.buses ≡ Some b =
    ap (λ (s : RuleSet). named (λ (x : Bus). x.name) bus s.buses) (sym same)
    ∙ ap (λ (n : List ℕ). named (λ (x : Bus). x.name) n on.buses) (sym named_so) ∙ there in
    let has : has_bus bus set ≡ true = ap is_some found in
    (policy, subst (λ (o : Option Bus). IsPolicyThere o policy) (sym found) of, is ∙ sym (rw has refl))
