-- The targets of a PutTargets: `adds_none`, `adds_target` (one target and those after it) and `all_split`; `accepted_so` and `failed_so`
-- (what became of them), `put_allowed` and `put_formed_so` (the change of the accepted ones), `accepted_within` (they are of those of the
-- request).
use Rattle.std.proofs.Common.{◌≡◌, ℕ, suc, ◌≤◌, ◌<◌, ◌&&◌, Bool, true, not, is_some, List, [], ◌∷◌, ◌++◌, length, map, Some, sym, refl, ap, ◌∙◌, subst, arith}
use Rattle.std.proofs.Common.{append_assoc, append-nil}
use Rattle.std.specs.Prelude.{nat_le, Option, None, All}
use Rattle.std.specs.List.{Contains}
use Rattle.std.proofs.lemmas.Bool.{le-leb, leb-true}
use Rattle.std.proofs.lemmas.List.Elements.{All-head, All-tail, All-cons, All-weaker}
use Rattle.json_text.specs.Tree.{Tree}
use Rattle.json_text.specs.View.{trees_of}
use Rattle.rule_targets.specs.declared.target.AskedTarget.{AskedTarget}
use Rattle.rule_targets.specs.declared.target.Target.{Target}
use Rattle.rule_targets.specs.Target.{asked_of, put_as, HasValidReads}
use Rattle.rule_targets.specs.WellFormed.{names_rule, NamesRule, are_few}
use Rattle.rule_targets.proofs.TargetLemmas.{asked_put, put_valid}
use Rattle.rule_table.specs.declared.control.TargetFault.{TargetFault}
use Rattle.rule_table.specs.declared.control.ControlFault.TheVariants.{Validation}
use Rattle.api_replies.specs.declared.member.Member.TheVariants as member
use Rattle.rule_table.specs.Control.{Control, targets_put}
use Rattle.rule_table.specs.RuleSet.{Rule, RuleSet, put_target, rule_at, targets_of}
use Rattle.rule_table.specs.Refusal.{target_fault, are_put, are_some_put, IsAllowed}
use Rattle.rule_table.specs.WellFormed.{HasValidInput, IsWellFormed}
use Rattle.rule_table.proofs.AllowedLemmas.{no_member_fault, one_input, put_formed, targets_fine}
use Rattle.rule_table.proofs.ChangeLemmas.{after_rule}
use Rattle.call_replies.specs.Causes.{target_cause}
use Rattle.api_replies.specs.declared.cause.Cause.{Cause}
use Rattle.router_calls.specs.Targets.{having, accepted_first, failed_first, accepted_targets, failed_targets}
use Rattle.call_replies.specs.Replies.{target_report}
use Rattle.router_calls.specs.Steps.{AddsTargets, AreAllSplit, IsOneSplit}
use Rattle.router_calls.specs.declared.put_targets.SplitTargets.{SplitTargets}

pub adds_none : (set : RuleSet) (old : SplitTargets) → AddsTargets set [] old old
adds_none set old = record { put = sym (append-nil old.accepted.items); reports = sym (append-nil (trees_of old.reports.items)) }

put_step : (o : Option TargetFault) (target : AskedTarget) (before after : List Target)
    → (before ++ accepted_first o target []) ++ after ≡ before ++ accepted_first o target after
put_step None target before after = append_assoc before (put_as target ∷ []) after
put_step (Some fault) target before after = ap (λ ts. ts ++ after) (append-nil before)

report_step : (o : Option TargetFault) (target : AskedTarget) (before : List Tree) (after : List (List ℕ × Cause))
    → (before ++ map target_report (failed_first o target [])) ++ map target_report after ≡ before ++ map target_report (failed_first o target after)
report_step None target before after = ap (λ ts. ts ++ map target_report after) (append-nil before)
report_step (Some fault) target before after = append_assoc before (target_report (target.id, target_cause fault) ∷ []) (map target_report after)

pub adds_target : (set : RuleSet) (target : AskedTarget) (rest : List AskedTarget) (old mid new : SplitTargets) → IsOneSplit set target old mid
    → AddsTargets set rest mid new → AddsTargets set (target ∷ rest) old new
adds_target set target rest old mid new one more =
    let found = target_fault set old.have.items target in
    let next = having found target old.have.items in
    record {
      put = more.put ∙ ap (λ h. mid.accepted.items ++ accepted_targets set h rest) one.have
          ∙ ap (λ ts. ts ++ accepted_targets set next rest) one.put ∙ put_step found target old.accepted.items (accepted_targets set next rest);
      reports = more.reports ∙ ap (λ h. trees_of mid.reports.items ++ map target_report (failed_targets set h rest)) one.have
          ∙ ap (λ ts. ts ++ map target_report (failed_targets set next rest)) one.reports
          ∙ report_step found target (trees_of old.reports.items) (failed_targets set next rest);
    }

-- the accepted targets can be put one after the other
pub both : (a b : Bool) → a ≡ true → b ≡ true → (a && b) ≡ true
both a b p q = ap (λ x. x && b) p ∙ q

good_first : (set : RuleSet) (have : List Target) (target : AskedTarget) (rest : List Target) (o : Option TargetFault) → target_fault set have target ≡ o
    → are_put set rest (having o target have) ≡ true → are_put set (accepted_first o target rest) have ≡ true
good_first set have target rest (Some fault) is good = good
good_first set have target rest None is good =
    let same = asked_put target (no_member_fault set have target is) (one_input set have target is) in
    both (not (is_some (target_fault set have (asked_of (put_as target))))) (are_put set rest (put_target (put_as target) have))
    (ap (λ t. not (is_some (target_fault set have t))) same ∙ ap (λ o. not (is_some o)) is) good

accepted_good : (set : RuleSet) (have : List Target) (targets : List AskedTarget) → are_put set (accepted_targets set have targets) have ≡ true
accepted_good set have [] = refl
accepted_good set have (target ∷ targets) =
    let next = having (target_fault set have target) target have in
    good_first set have target (accepted_targets set next targets) (target_fault set have target) refl (accepted_good set next targets)

pub some_of : {A : Type 0} (xs : List A) → 0 < length xs → nat_le 1 (length xs) ≡ true
some_of xs some = le-leb 1 (length xs) (omega (arith, some))

-- the change of the accepted targets is allowed
pub split_allowed : (set : RuleSet) (bus rule : List ℕ) (r : Rule) (targets : List AskedTarget) → rule_at bus rule set ≡ Some r
    → 0 < length (accepted_targets set r.targets targets) → IsAllowed (targets_put bus rule (accepted_targets set r.targets targets)) set
split_allowed set bus rule r targets found some =
    let accepted = accepted_targets set r.targets targets in
    after_rule bus rule set r (are_some_put set accepted) (Validation member.Targets) true found
    (both (nat_le 1 (length accepted)) (are_put set accepted r.targets) (some_of accepted some) (accepted_good set r.targets targets))

-- all targets, one after the other, from none
pub all_split : (set : RuleSet) (have : List Target) (targets : List AskedTarget) (old all : SplitTargets) → old.have.items ≡ have
    → old.accepted.items ≡ [] → trees_of old.reports.items ≡ [] → AddsTargets set targets old all → AreAllSplit set have targets all
all_split set have targets old all is none nothing adds = record {
  accepted = adds.put ∙ ap (λ ts. ts ++ accepted_targets set old.have.items targets) none ∙ ap (λ h. accepted_targets set h targets) is;
  reports = adds.reports ∙ ap (λ ts. ts ++ map target_report (failed_targets set old.have.items targets)) nothing
      ∙ ap (λ h. map target_report (failed_targets set h targets)) is;
}

-- the accepted targets, and those that failed
pub accepted_so : (on set : RuleSet) (r : Rule) (targets : List AskedTarget) (have : List Target) (all : SplitTargets) → on ≡ set → have ≡ r.targets
    → AreAllSplit on have targets all → all.accepted.items ≡ accepted_targets set r.targets targets
accepted_so on set r targets have all same have_is split =
    split.accepted ∙ ap (λ (s : RuleSet). accepted_targets s have targets) same ∙ ap (λ (ts : List Target). accepted_targets set ts targets) have_is

pub failed_so : (on set : RuleSet) (r : Rule) (targets : List AskedTarget) (have : List Target) (all : SplitTargets) → on ≡ set → have ≡ r.targets
    → AreAllSplit on have targets all → trees_of all.reports.items ≡ map target_report (failed_targets set r.targets targets)
failed_so on set r targets have all same have_is split =
    split.reports ∙ ap (λ (s : RuleSet). map target_report (failed_targets s have targets)) same
    ∙ ap (λ (ts : List Target). map target_report (failed_targets set ts targets)) have_is

-- ---- the accepted targets are of those that the request has, and their change is well formed

none_of : {X : Type 0} (P : X → Type 0) → All P []
none_of P = λ k d low. absurd (omega (arith, low))

here : {X : Type 0} (x : X) (xs : List X) → Contains (x ∷ xs) x
here x xs = (0, omega arith, refl)

there : {X : Type 0} (y : X) (xs : List X) (x : X) → Contains xs x → Contains (y ∷ xs) x
there y xs x (k, low, is) = (suc k, omega (arith, low), is)

pub within_more : {X : Type 0} (y : X) (xs ys : List X) → All (Contains xs) ys → All (Contains (y ∷ xs)) ys
within_more y xs ys h = All-weaker (Contains xs) (Contains (y ∷ xs)) (there y xs) ys h

pub within_both : {X : Type 0} (y : X) (xs ys : List X) → All (Contains xs) ys → All (Contains (y ∷ xs)) (y ∷ ys)
within_both y xs ys h = All-cons (Contains (y ∷ xs)) y ys (here y xs) (within_more y xs ys h)

within_first : (o : Option TargetFault) (target : AskedTarget) (all rest : List Target) → All (Contains all) rest
    → All (Contains (put_as target ∷ all)) (accepted_first o target rest)
within_first None target all rest h = within_both (put_as target) all rest h
within_first (Some fault) target all rest h = within_more (put_as target) all rest h

pub accepted_within : (set : RuleSet) (have : List Target) (targets : List AskedTarget) → All (Contains (map put_as targets)) (accepted_targets set have targets)
accepted_within set have [] = none_of (Contains [])
accepted_within set have (target ∷ targets) =
    let next = having (target_fault set have target) target have in
    within_first (target_fault set have target) target (map put_as targets) (accepted_targets set next targets) (accepted_within set next targets)

valid_first : (o : Option TargetFault) (target : AskedTarget) (rest : List Target) → HasValidReads target → All HasValidInput rest
    → All HasValidInput (accepted_first o target rest)
valid_first None target rest valid others = All-cons HasValidInput (put_as target) rest (put_valid target valid) others
valid_first (Some fault) target rest valid others = others

-- the inputs of the accepted targets are valid
accepted_valid : (set : RuleSet) (have : List Target) (targets : List AskedTarget) → All HasValidReads targets
    → All HasValidInput (accepted_targets set have targets)
accepted_valid set have [] valid = none_of HasValidInput
accepted_valid set have (target ∷ targets) valid =
    let next = having (target_fault set have target) target have in
    valid_first (target_fault set have target) target (accepted_targets set next targets) (All-head HasValidReads target targets valid)
    (accepted_valid set next targets (All-tail HasValidReads target targets valid))

few_first : (o : Option TargetFault) (target : AskedTarget) (rest : List Target) (n : ℕ) → length rest ≤ n → length (accepted_first o target rest) ≤ suc n
few_first None target rest n low = omega (arith, low)
few_first (Some fault) target rest n low = omega (arith, low)

accepted_few : (set : RuleSet) (have : List Target) (targets : List AskedTarget) → length (accepted_targets set have targets) ≤ length targets
accepted_few set have [] = omega arith
accepted_few set have (target ∷ targets) =
    let next = having (target_fault set have target) target have in
    few_first (target_fault set have target) target (accepted_targets set next targets) (length targets) (accepted_few set next targets)

pub few_is : (n : ℕ) → 1 ≤ n → n ≤ 100 → are_few n ≡ true
few_is n some low = both (nat_le 1 n) (nat_le n 100) (le-leb 1 n some) (le-leb n 100 low)

-- the change of the accepted targets, if there are some
pub put_allowed : (on set : RuleSet) (bus rule : List ℕ) (r : Rule) (targets : List AskedTarget) (have : List Target) (all : SplitTargets)
    (kept : List Target) (c : Control) → rule_at bus rule set ≡ Some r → on ≡ set → have ≡ r.targets → AreAllSplit on have targets all
    → kept ≡ all.accepted.items → c ≡ targets_put bus rule kept → 0 < length kept → IsAllowed c set
put_allowed on set bus rule r targets have all kept c found same have_is split is change some =
    let kept_is : kept ≡ accepted_targets set r.targets targets = is ∙ accepted_so on set r targets have all same have_is split in
    subst (λ (x : Control). IsAllowed x set) (sym (change ∙ ap (targets_put bus rule) kept_is))
    (split_allowed set bus rule r targets found (omega (arith, some, ap length kept_is)))

-- and is well formed
pub put_formed_so : (on set : RuleSet) (bus rule : List ℕ) (targets : List AskedTarget) (have : List Target) (all : SplitTargets)
    (kept : List Target) (c : Control) → NamesRule bus rule → length targets ≤ 100 → All HasValidReads targets
    → AreAllSplit on have targets all
    → kept ≡ all.accepted.items → c ≡ targets_put bus rule kept → IsAllowed c set → IsWellFormed c
put_formed_so on set bus rule targets have all kept c names few valid split is change allowed =
    let put = targets_fine bus rule kept set (subst (λ (x : Control). IsAllowed x set) change allowed) in
    let count = accepted_few on have targets in
    let counted = few_is (length kept) (leb-true 1 (length kept) put.0) (omega (arith, ap length is, ap length split.accepted, count, few)) in
    subst IsWellFormed (sym change) (
      both (names_rule bus rule) _ names (both (are_few (length kept)) _ counted (put_formed set kept (targets_of bus rule set) put.1)),
      subst (All HasValidInput) (sym (is ∙ split.accepted)) (accepted_valid on have targets valid),
    )
