-- The ids of a RemoveTargets: `without_keep`, `without_drop`, `all_is`, `removed_allowed` and `removed_formed` (the change of the
-- removed ids), `removed_within` (they are of those of the request).
use Rattle.std.proofs.Common.{◌≡◌, ℕ, suc, ◌≤◌, ◌<◌, Bool, true, false, ◌&&◌, ◌||◌, List, [], ◌∷◌, ◌++◌, length, Option, Some, is_some}
use Rattle.std.proofs.Common.{sym, refl, ap, ◌∙◌, subst, arith, append-nil}
use Rattle.std.specs.Prelude.{cond, nat_le, All}
use Rattle.std.specs.List.{list_all, list_any, Contains}
use Rattle.std.proofs.lemmas.Bool.{leb-true}
use Rattle.std.proofs.lemmas.List.Elements.{All-contains, All-weaker, All-head, All-tail}
use Rattle.std.specs.Str.{bytes_eq}
use Rattle.name_rows.specs.Rows.{named}
use Rattle.rule_targets.specs.declared.target.Target.{Target}
use Rattle.rule_table.specs.Control.{Control, targets_removed}
use Rattle.event_shape.specs.Names.{is_short_name, IsShortName}
use Rattle.rule_table.specs.RuleSet.{Rule, RuleSet, rule_at}
use Rattle.rule_table.specs.Refusal.{are_removable, are_some_removable, IsAllowed}
use Rattle.rule_table.specs.WellFormed.{IsWellFormed}
use Rattle.rule_targets.specs.WellFormed.{names_rule, NamesRule, are_few}
use Rattle.rule_table.specs.declared.control.ControlFault.TheVariants.{Validation}
use Rattle.api_replies.specs.declared.member.Member.TheVariants as member
use Rattle.rule_table.proofs.AllowedLemmas.{removal_fine}
use Rattle.rule_table.proofs.ChangeLemmas.{after_rule}
use Rattle.router_calls.proofs.TargetLemmas.{within_more, within_both, both, some_of, few_is}
use Rattle.router_calls.specs.Removals.{has_target, without_target, removed_ids}

any_step : (b : Bool) (rest : Bool) (target : Target) (o : Option Target) → rest ≡ is_some o → (b || rest) ≡ is_some (cond b (Some target) o)
any_step true rest target o is = refl
any_step false rest target o is = is

any_named : (id : List ℕ) (targets : List Target) → has_target id targets ≡ is_some (named (λ (t : Target). t.id) id targets)
any_named id [] = refl
any_named id (t ∷ ts) =
    any_step (bytes_eq t.id id) (list_any (λ (t : Target). bytes_eq t.id id) ts) t (named (λ (t : Target). t.id) id ts) (any_named id ts)

without_step : (b : Bool) (target : Target) (xs ys zs : List Target) → xs ≡ ys ++ zs → cond b xs (target ∷ xs) ≡ cond b ys (target ∷ ys) ++ zs
without_step true target xs ys zs is = is
without_step false target xs ys zs is = ap (λ ts. target ∷ ts) is

pub without_append : (id : List ℕ) (xs ys : List Target) → without_target id (xs ++ ys) ≡ without_target id xs ++ without_target id ys
without_append id [] ys = refl
without_append id (t ∷ xs) ys =
    without_step (bytes_eq t.id id) t (without_target id (xs ++ ys)) (without_target id xs) (without_target id ys) (without_append id xs ys)

keep_step : (b : Bool) (target : Target) → b ≡ false → cond b [] (target ∷ []) ≡ target ∷ []
keep_step true target is = cc
keep_step false target is = refl

drop_step : (b : Bool) (target : Target) → b ≡ true → cond b [] (target ∷ []) ≡ []
drop_step true target is = refl
drop_step false target is = cc

-- one target more stays
pub without_keep : (id : List ℕ) (xs : List Target) (x : Target) → bytes_eq x.id id ≡ false → without_target id (xs ++ x ∷ []) ≡ without_target id xs ++ x ∷ []
without_keep id xs x other = without_append id xs (x ∷ []) ∙ ap (λ ts. without_target id xs ++ ts) (keep_step (bytes_eq x.id id) x other)

-- one target more goes
pub without_drop : (id : List ℕ) (xs : List Target) (x : Target) → bytes_eq x.id id ≡ true → without_target id (xs ++ x ∷ []) ≡ without_target id xs
without_drop id xs x same =
    without_append id xs (x ∷ []) ∙ ap (λ ts. without_target id xs ++ ts) (drop_step (bytes_eq x.id id) x same) ∙ append-nil (without_target id xs)

-- the removed ids can be removed one after the other
removable_step : (id : List ℕ) (targets : List Target) (b : Bool) (xs ys : List (List ℕ)) → has_target id targets ≡ b
    → are_removable xs (without_target id targets) ≡ true → are_removable ys targets ≡ true → are_removable (cond b (id ∷ xs) ys) targets ≡ true
removable_step id targets true xs ys is left others =
    ap (λ found. found && are_removable xs (without_target id targets)) (sym (any_named id targets) ∙ is) ∙ left
removable_step id targets false xs ys is left others = others

removable : (ids : List (List ℕ)) (targets : List Target) → are_removable (removed_ids ids targets) targets ≡ true
removable [] targets = refl
removable (id ∷ ids) targets =
    removable_step id targets (has_target id targets) (removed_ids ids (without_target id targets)) (removed_ids ids targets) refl
    (removable ids (without_target id targets)) (removable ids targets)

-- the change of the removed ids is allowed
removal_allowed : (set : RuleSet) (bus rule : List ℕ) (r : Rule) (ids : List (List ℕ)) → rule_at bus rule set ≡ Some r
    → 0 < length (removed_ids ids r.targets) → IsAllowed (targets_removed bus rule (removed_ids ids r.targets)) set
removal_allowed set bus rule r ids found some =
    let removed = removed_ids ids r.targets in
    after_rule bus rule set r (are_some_removable removed) (Validation member.Ids) true found
    (both (nat_le 1 (length removed)) (are_removable removed r.targets) (some_of removed some) (removable ids r.targets))

-- ---- the removed ids are of those that the request has, and their change is well formed

none_of : {X : Type 0} (P : X → Type 0) → All P []
none_of P = λ k d low. absurd (omega (arith, low))

within_step : (b : Bool) (id : List ℕ) (ids xs ys : List (List ℕ)) → All (Contains ids) xs → All (Contains ids) ys
    → All (Contains (id ∷ ids)) (cond b (id ∷ xs) ys)
within_step true id ids xs ys p q = within_both id ids xs p
within_step false id ids xs ys p q = within_more id ids ys q

pub removed_within : (ids : List (List ℕ)) (targets : List Target) → All (Contains ids) (removed_ids ids targets)
removed_within [] targets = none_of (Contains [])
removed_within (id ∷ ids) targets =
    within_step (has_target id targets) id ids (removed_ids ids (without_target id targets)) (removed_ids ids targets)
    (removed_within ids (without_target id targets)) (removed_within ids targets)

few_step : (b : Bool) (id : List ℕ) (xs ys : List (List ℕ)) (n : ℕ) → length xs ≤ n → length ys ≤ n → length (cond b (id ∷ xs) ys) ≤ suc n
few_step true id xs ys n p q = omega (arith, p)
few_step false id xs ys n p q = omega (arith, q)

removed_few : (ids : List (List ℕ)) (targets : List Target) → length (removed_ids ids targets) ≤ length ids
removed_few [] targets = omega arith
removed_few (id ∷ ids) targets =
    few_step (has_target id targets) id (removed_ids ids (without_target id targets)) (removed_ids ids targets) (length ids)
    (removed_few ids (without_target id targets)) (removed_few ids targets)

-- ids with a property, as a truth value
pub all_is : (ids : List (List ℕ)) → All IsShortName ids → list_all is_short_name ids ≡ true
all_is [] all = refl
all_is (id ∷ ids) all = both (is_short_name id) (list_all is_short_name ids) (All-head IsShortName id ids all) (all_is ids (All-tail IsShortName id ids all))

-- the change of the removed ids, if there are some
pub removed_allowed : (set : RuleSet) (bus rule : List ℕ) (r : Rule) (ids kept : List (List ℕ)) (c : Control) → rule_at bus rule set ≡ Some r
    → kept ≡ removed_ids ids r.targets → c ≡ targets_removed bus rule kept → 0 < length kept → IsAllowed c set
removed_allowed set bus rule r ids kept c found is change some =
    subst (λ (x : Control). IsAllowed x set) (sym (change ∙ ap (targets_removed bus rule) is))
    (removal_allowed set bus rule r ids found (omega (arith, some, ap length is)))

-- and is well formed
pub removed_formed : (set : RuleSet) (bus rule : List ℕ) (r : Rule) (ids kept : List (List ℕ)) (c : Control) → NamesRule bus rule → length ids ≤ 100
    → All IsShortName ids → kept ≡ removed_ids ids r.targets → c ≡ targets_removed bus rule kept → IsAllowed c set → IsWellFormed c
removed_formed set bus rule r ids kept c names few short is change allowed =
    let of = All-weaker (Contains ids) IsShortName (λ x h. All-contains IsShortName ids x short h) (removed_ids ids r.targets) (removed_within ids r.targets) in
    let some = removal_fine bus rule kept set (subst (λ (x : Control). IsAllowed x set) change allowed) in
    let counted = few_is (length kept) (leb-true 1 (length kept) some) (omega (arith, ap length is, removed_few ids r.targets, few)) in
    subst IsWellFormed (sym change)
    ((both (names_rule bus rule) _ names (both (are_few (length kept)) _ counted (all_is kept (subst (All IsShortName) (sym is) of))), tt))
