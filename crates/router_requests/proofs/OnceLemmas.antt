-- What matching finds is found once: `verdict_once` and `targets_once` (of an entry), `tested_once` (of a pattern), `policy_once` (the policy
-- that a bus's text is), and `matched_once` (the targets of the rules that match).
use Rattle.std.proofs.Common.{◌≡◌, ℕ, ◌++◌, inl, inr, Bool, true, false, List, [], ◌∷◌, map, Option, Some, None, Ok, Err, sym, refl, ap, ◌∙◌, subst}
use Rattle.std.specs.Prelude.{Result}
use Rattle.json_text.specs.Tree.{Tree, no_items}
use Rattle.event_shape.specs.Event.{event_tree}
use Rattle.event_shape.specs.Unnumbered.{Unnumbered, with_number}
use Rattle.event_shape.specs.declared.entry.EntryFault.{EntryFault}
use Rattle.bus_policy.specs.Parts.{statements_of}
use Rattle.bus_policy.specs.Verdict.{Asker, Verdict as PolicyVerdict, IsBusVerdict}
use Rattle.bus_policy.proofs.LawLemmas.{verdict_once as policy_verdict_once}
use Rattle.bus_policy.proofs.ReadLemmas.{one_policy}
use Rattle.name_rows.specs.Rows.{named}
use Rattle.rule_table.specs.RuleSet.{Rule, Bus, RuleSet, rules_of}
use Rattle.router_requests.specs.Matching.{AreMatched, AreTargetsOf, IsTestedAs, seen_target}
use Rattle.router_requests.specs.Verdict.{IsPolicyOf, asker_for, seen_verdict, IsVerdictOn, IsEntryVerdict}
use Rattle.router_requests.specs.declared.seen.SeenTarget.{SeenTarget}
use Rattle.router_requests.specs.declared.seen.SeenVerdict.{SeenVerdict}
use Rattle.router_requests.specs.declared.seen.SeenVerdict.TheVariants as verdict

pub matched_once : (rules : List Rule) (event : Tree) (xs ys : List SeenTarget) → AreMatched rules event xs → AreMatched rules event ys → xs ≡ ys
matched_once [] event xs ys p q = p ∙ sym q
matched_once (rule ∷ rules) event xs ys (rest, are, inl (m, e)) (other, so, inl (n, f)) =
    e ∙ ap (λ (ts : List SeenTarget). map (seen_target rule) rule.targets ++ ts) (matched_once rules event rest other are so) ∙ sym f
matched_once (rule ∷ rules) event xs ys (rest, are, inl (m, e)) (other, so, inr (n, f)) = absurd (n m)
matched_once (rule ∷ rules) event xs ys (rest, are, inr (m, e)) (other, so, inl (n, f)) = absurd (m n)
matched_once (rule ∷ rules) event xs ys (rest, are, inr (m, e)) (other, so, inr (n, f)) = e ∙ matched_once rules event rest other are so ∙ sym f

pub targets_once : (set : RuleSet) (entry : Result Unnumbered EntryFault) (v : SeenVerdict) (xs ys : List SeenTarget) → AreTargetsOf set entry v xs
    → AreTargetsOf set entry v ys → xs ≡ ys
targets_once set (Ok event) verdict.Allowed xs ys p q = matched_once (rules_of event.bus set) (event_tree (with_number 0 event.event) None) xs ys (p 0) (q 0)
targets_once set (Ok event) (verdict.Fault f) xs ys p q = p ∙ sym q
targets_once set (Ok event) verdict.NoBus xs ys p q = p ∙ sym q
targets_once set (Ok event) (verdict.DeniedBy name) xs ys p q = p ∙ sym q
targets_once set (Ok event) verdict.NotAllowed xs ys p q = p ∙ sym q
targets_once set (Err f) v xs ys p q = p ∙ sym q

pub policy_once : (o : Option (List ℕ)) (p q : Option Tree) → IsPolicyOf o p → IsPolicyOf o q → p ≡ q
policy_once None p q a b = a ∙ sym b
policy_once (Some t) p q (x, is, e) (y, so, f) = e ∙ ap Some (one_policy t x y is so) ∙ sym f

bus_verdict_once : (policy : Option Tree) (asker : Asker) (v w : PolicyVerdict) → IsBusVerdict policy asker v → IsBusVerdict policy asker w → v ≡ w
bus_verdict_once None asker v w p q = policy_verdict_once no_items asker v w p q
bus_verdict_once (Some policy) asker v w p q = policy_verdict_once (statements_of policy) asker v w p q

verdict_on_once : (bus : Option Bus) (caller : List ℕ) (event : Unnumbered) (v w : SeenVerdict) → IsVerdictOn bus caller event v
    → IsVerdictOn bus caller event w → v ≡ w
verdict_on_once None caller event v w p q = p ∙ sym q
verdict_on_once (Some bus) caller event v w (policy, x, is, says, e) (other, y, so, also, f) =
    let same : other ≡ policy = policy_once bus.policy other policy so is in
    let there = subst (λ (o : Option Tree). IsBusVerdict o (asker_for caller event) y) same also in
    e ∙ ap seen_verdict (bus_verdict_once policy (asker_for caller event) x y says there) ∙ sym f

pub verdict_once : (set : RuleSet) (caller : List ℕ) (entry : Result Unnumbered EntryFault) (v w : SeenVerdict) → IsEntryVerdict set caller entry v
    → IsEntryVerdict set caller entry w → v ≡ w
verdict_once set caller (Ok event) v w p q = verdict_on_once (named (λ b. b.name) event.bus set.buses) caller event v w p q
verdict_once set caller (Err f) v w p q = p ∙ sym q

pub tested_once : (pattern : List ℕ) (event : Tree) (x y : Bool) → IsTestedAs pattern event x → IsTestedAs pattern event y → x ≡ y
tested_once pattern event true true p q = refl
tested_once pattern event true false holds not = absurd (not holds)
tested_once pattern event false true not holds = absurd (not holds)
tested_once pattern event false false p q = refl
