-- What it says that a change is allowed: `bus_new`, `bus_free`, `archive_new`, `rule_room`, `rule_free`, `targets_fine`, `removal_fine`, `queue_new`,
-- `queue_free`. Of targets that are put one by one: `no_member_fault`, `one_input`, `own_member`, `own_inputs`, `own_queues`, `fault_found`, `room_decides`,
-- `put_formed`, `good_few`, `good_there`. Of the queues of a target after a change: `target_still`. Of truth values and optional values:
-- `not_true`, `not_false`, `both_true`, `either_false`, `some_items`, `no_items`, `none_of`, `by_option`.
use Rattle.std.proofs.Common.{◌≡◌, ◌<◌, ◌≤◌, ◌⊎◌, ◌&&◌, ◌||◌, ◌++◌, if◌then◌else◌, ℕ, Bool, true, false, not, List, [], ◌∷◌, length, map, Option, Some, None}
use Rattle.std.proofs.Common.{is_some, suc, inl, inr, refl, sym, ap, ◌∙◌, subst, arith}
use Rattle.std.specs.Prelude.{All, IsTrue, ◌==◌, nat_le, nat_lt}
use Rattle.std.specs.List.{list_all}
use Rattle.std.specs.Option.{option_map, option_and_then}
use Rattle.std.specs.Str.{bytes_eq}
use Rattle.std.proofs.lemmas.Bool.{false≢true, ltb-true, leb-true, le-leb}
use Rattle.std.proofs.lemmas.Bool.Decides.{leb_tells}
use Rattle.std.proofs.lemmas.List.Elements.{All-head, All-tail}
use Rattle.json_text.specs.Checks.{unless, first_fault}
use Rattle.event_shape.specs.Names.{default_bus, queue_in}
use Rattle.api_replies.specs.declared.member.Member.{Member}
use Rattle.name_rows.specs.Rows.{replacing}
use Rattle.name_rows.proofs.RowLemmas.{by_test, All_placed}
use Rattle.rule_targets.specs.declared.target.AskedTarget.{AskedTarget}
use Rattle.rule_targets.specs.declared.target.Target.{Target}
use Rattle.rule_targets.specs.Target.{asked_of, put_as}
use Rattle.rule_targets.specs.Checks.{member_checks, member_fault, has_two_inputs}
use Rattle.rule_targets.specs.WellFormed.{is_target_formed}
use Rattle.rule_targets.proofs.CheckLemmas.{kept, passed_front, found_front, both_none, two_none, mapped}
use Rattle.rule_targets.proofs.TargetLemmas.{put_asked}
use Rattle.rule_table.specs.declared.control.TargetFault.{TargetFault}
use Rattle.rule_table.specs.declared.control.TargetFault.TheVariants as fault
use Rattle.rule_table.specs.Control.{bus_created, bus_deleted, rule_put, rule_deleted, targets_put, targets_removed, queue_created, queue_deleted}
use Rattle.rule_table.specs.Control.{archive_created}
use Rattle.rule_table.specs.RuleSet.{RuleSet, put_target, put_targets, has_bus, has_rule, has_queue, has_archive, is_queue_used, rules_of, targets_of, archives_of}
use Rattle.rule_table.specs.Refusal.{missing_in, own_checks, is_bus_unused, target_fault, are_put, are_some_put, are_some_removable, rule_checks, IsAllowed}
use Rattle.rule_table.specs.WellFormed.{HasValidInput}
use Rattle.rule_table.specs.Sound.{IsSoundTarget}

-- ---- truth values

pub not_true : (b : Bool) → not b ≡ true → b ≡ false
not_true true e = absurd (false≢true e)
not_true false e = refl

pub not_false : (b : Bool) → not b ≡ false → b ≡ true
not_false true e = refl
not_false false e = absurd (false≢true (sym e))

pub both_true : (a b : Bool) → (a && b) ≡ true → (a ≡ true) × (b ≡ true)
both_true true b e = (refl, e)
both_true false b e = absurd (false≢true e)

either_true : (a b : Bool) → (a || b) ≡ true → (a ≡ true) ⊎ (b ≡ true)
either_true true b e = inl refl
either_true false b e = inr e

pub either_false : (b : Bool) → (b && false) ≡ false
either_false true = refl
either_false false = refl

pub some_items : {A : Type 0} (xs : List A) → false ≡ (length xs == 0) → nat_le 1 (length xs) ≡ true
some_items [] e = absurd (false≢true e)
some_items (x ∷ xs) e = le-leb 1 (length (x ∷ xs)) (omega arith)

pub no_items : {A : Type 0} (xs : List A) → nat_le (length xs) 0 ≡ true → xs ≡ []
no_items [] e = refl
no_items (x ∷ xs) e = absurd (omega (arith, leb-true (length (x ∷ xs)) 0 e))

pub none_of : {A : Type 0} (o : Option A) → is_some o ≡ false → o ≡ None
none_of None e = refl
none_of (Some a) e = absurd (false≢true (sym e))

pub by_option : {A G : Type 0} (o : Option A) → (o ≡ None → G) → ((a : A) → o ≡ Some a → G) → G
by_option None none some = none refl
by_option (Some a) none some = some a refl

none_found : {A : Type 0} (o : Option A) → not (is_some o) ≡ true → o ≡ None
none_found None e = refl
none_found (Some a) e = absurd (false≢true e)

-- below a limit that is not reached
pub room_below : (count most : ℕ) → (most ≤ count → IsTrue false) → nat_lt count most ≡ true
room_below count most never = elim (leb_tells most count) [
  | inl (_, reached) ↦ absurd (false≢true (never reached))
  | inr (_, below) ↦ le-leb (suc count) most (omega (arith, below))
]

-- ---- a change that is allowed

pub bus_new : (name : List ℕ) (set : RuleSet) → IsAllowed (bus_created name) set → (has_bus name set ≡ false) × (length set.buses < 100)
bus_new name set a =
    let first = kept (not (has_bus name set)) _ _ a in
    let second = kept (nat_lt (length set.buses) 100) _ _ first.1 in
    (not_true (has_bus name set) first.0, ltb-true (length set.buses) 100 second.0)

pub bus_free : (name : List ℕ) (set : RuleSet) → IsAllowed (bus_deleted name) set
    → (bytes_eq name default_bus ≡ false) × (rules_of name set ≡ []) × (archives_of name set ≡ [])
bus_free name set a =
    let first = kept (not (bytes_eq name default_bus)) _ _ a in
    let second = kept (has_bus name set) _ _ first.1 in
    let third = kept (is_bus_unused name set) _ _ second.1 in
    let both = both_true (nat_le (length (rules_of name set)) 0) (nat_le (length (archives_of name set)) 0) third.0 in
    (not_true (bytes_eq name default_bus) first.0, no_items (rules_of name set) both.0, no_items (archives_of name set) both.1)

pub archive_new : (name bus : List ℕ) (pattern : Option (List ℕ)) (days : ℕ) (set : RuleSet) → IsAllowed (archive_created name bus pattern days) set
    → (has_bus bus set ≡ true) × (length set.archives < 100)
archive_new name bus pattern days set a =
    let first = kept (has_bus bus set) _ _ a in
    let second = kept (not (has_archive name set)) _ _ first.1 in
    let third = kept (nat_lt (length set.archives) 100) _ _ second.1 in
    (first.0, ltb-true (length set.archives) 100 third.0)

pub rule_room : (bus name pattern : List ℕ) (enabled : Bool) (set : RuleSet) → IsAllowed (rule_put bus name pattern enabled) set
    → (has_rule bus name set ≡ true) ⊎ (length (rules_of bus set) < 300)
rule_room bus name pattern enabled set a =
    let first = kept (has_bus bus set) _ _ a in
    let second = kept (has_rule bus name set || nat_lt (length (rules_of bus set)) 300) _ _ first.1 in
    elim (either_true (has_rule bus name set) (nat_lt (length (rules_of bus set)) 300) second.0) [
      | inl there ↦ inl there
      | inr few ↦ inr (ltb-true (length (rules_of bus set)) 300 few)
    ]

pub rule_free : (bus name : List ℕ) (set : RuleSet) → IsAllowed (rule_deleted bus name) set → targets_of bus name set ≡ []
rule_free bus name set a =
    let after = both_none (rule_checks bus name set) _ a in
    no_items (targets_of bus name set) (kept (nat_le (length (targets_of bus name set)) 0) _ _ after.1).0

pub targets_fine : (bus rule : List ℕ) (targets : List Target) (set : RuleSet) → IsAllowed (targets_put bus rule targets) set
    → (nat_le 1 (length targets) ≡ true) × (are_put set targets (targets_of bus rule set) ≡ true)
targets_fine bus rule targets set a =
    let after = both_none (rule_checks bus rule set) _ a in
    both_true (nat_le 1 (length targets)) _ (kept (are_some_put set targets (targets_of bus rule set)) _ _ after.1).0

pub removal_fine : (bus rule : List ℕ) (ids : List (List ℕ)) (set : RuleSet) → IsAllowed (targets_removed bus rule ids) set → nat_le 1 (length ids) ≡ true
removal_fine bus rule ids set a =
    let after = both_none (rule_checks bus rule set) _ a in
    (both_true (nat_le 1 (length ids)) _ (kept (are_some_removable ids (targets_of bus rule set)) _ _ after.1).0).0

pub queue_new : (name : List ℕ) (set : RuleSet) → IsAllowed (queue_created name) set → length set.queues < 1000
queue_new name set a =
    ltb-true (length set.queues) 1000 (kept (nat_lt (length set.queues) 1000) _ _ (kept (not (has_queue name set)) _ _ a).1).0

pub queue_free : (name : List ℕ) (set : RuleSet) → IsAllowed (queue_deleted name) set → is_queue_used name set ≡ false
queue_free name set a =
    not_true (is_queue_used name set) (kept (not (is_queue_used name set)) _ _ (kept (has_queue name set) _ _ a).1).0

-- ---- targets one by one

-- a target without a fault, whose input is valid, may be stored, and there is room for it
accepted : (set : RuleSet) (targets : List Target) (new : Target) → not (is_some (target_fault set targets (asked_of new))) ≡ true → HasValidInput new
    → IsSoundTarget set new × (length (put_target new targets) ≤ 5)
accepted set targets new e valid =
    let checked = both_none (own_checks set (asked_of new)) _ (none_found (target_fault set targets (asked_of new)) e) in
    let few = leb-true (length (put_target (put_as (asked_of new)) targets)) 5
    (kept (nat_le (length (put_target (put_as (asked_of new)) targets)) 5) _ _ checked.1).0 in
    (record { checked = checked.0; input = valid }, subst (λ t. length (put_target t targets) ≤ 5) (put_asked new) few)

map_none : {A B : Type 0} (g : A → B) (o : Option A) → option_map g o ≡ None → o ≡ None
map_none g None e = refl
map_none g (Some a) e = let never : Some (g a) ≡ None = e in absurd cc

-- a target without a fault has none of its own members
pub no_member_fault : (set : RuleSet) (targets : List Target) (target : AskedTarget) → target_fault set targets target ≡ None → member_fault target ≡ None
no_member_fault set targets target none =
    let members : List (Option TargetFault) = map (option_map fault.Member) (member_checks target) in
    let own = (both_none members _ (both_none (own_checks set target) _ none).0).0 in
    map_none fault.Member (member_fault target) (sym (mapped fault.Member (member_checks target)) ∙ own)

-- and has at most one input
pub one_input : (set : RuleSet) (targets : List Target) (target : AskedTarget) → target_fault set targets target ≡ None → has_two_inputs target ≡ false
one_input set targets target none =
    let members : List (Option TargetFault) = map (option_map fault.Member) (member_checks target) in
    let after = (both_none members _ (both_none (own_checks set target) _ none).0).1 in
    not_true (has_two_inputs target) (kept (not (has_two_inputs target)) _ _ after).0

-- ---- the own fault of a target

pub own_member : (set : RuleSet) (target : AskedTarget) (m : Member) → member_fault target ≡ Some m
    → first_fault (own_checks set target) ≡ Some (fault.Member m)
own_member set target m is =
    found_front (map (option_map fault.Member) (member_checks target)) _ (fault.Member m)
    (mapped fault.Member (member_checks target) ∙ ap (option_map fault.Member) is)

-- without a faulty member, and with at most one input, the queues decide
abbrev pub queue_faults : Option (List ℕ) → Option (List ℕ) → List (Option TargetFault)
queue_faults own dead = option_map fault.NoQueue own ∷ option_map fault.NoDeadLetterQueue dead ∷ []

members_pass : (target : AskedTarget) (rest : List (Option TargetFault)) → member_fault target ≡ None
    → first_fault (map (option_map fault.Member) (member_checks target) ++ rest) ≡ first_fault rest
members_pass target rest none =
    passed_front (map (option_map fault.Member) (member_checks target)) rest (mapped fault.Member (member_checks target) ∙ ap (option_map fault.Member) none)

pub own_inputs : (set : RuleSet) (target : AskedTarget) → member_fault target ≡ None → has_two_inputs target ≡ true
    → first_fault (own_checks set target) ≡ Some fault.TwoInputs
own_inputs set target none two =
    let queues = queue_faults (missing_in set (queue_in target.arn)) (missing_in set (option_and_then queue_in target.dead_letter)) in
    members_pass target (unless (not (has_two_inputs target)) fault.TwoInputs ∷ queues) none
    ∙ ap (λ b. first_fault (unless (not b) fault.TwoInputs ∷ queues)) two

pub own_queues : (set : RuleSet) (target : AskedTarget) (own dead : Option (List ℕ)) → member_fault target ≡ None → has_two_inputs target ≡ false
    → missing_in set (queue_in target.arn) ≡ own → missing_in set (option_and_then queue_in target.dead_letter) ≡ dead
    → first_fault (own_checks set target) ≡ first_fault (queue_faults own dead)
own_queues set target own dead none one own_is dead_is =
    let queues = queue_faults (missing_in set (queue_in target.arn)) (missing_in set (option_and_then queue_in target.dead_letter)) in
    members_pass target (unless (not (has_two_inputs target)) fault.TwoInputs ∷ queues) none
    ∙ ap (λ b. first_fault (unless (not b) fault.TwoInputs ∷ queues)) one
    ∙ ap (λ o. first_fault (queue_faults o (missing_in set (option_and_then queue_in target.dead_letter)))) own_is
    ∙ ap (λ o. first_fault (queue_faults own o)) dead_is

-- the fault of a target at a rule with these targets
pub fault_found : (set : RuleSet) (targets : List Target) (target : AskedTarget) (f : TargetFault) → first_fault (own_checks set target) ≡ Some f
    → target_fault set targets target ≡ Some f
fault_found set targets target f is = found_front (own_checks set target) _ f is

room : (b : Bool) → (if not b then Some fault.Sixth else None) ≡ first_fault (unless b fault.Sixth ∷ [])
room true = refl
room false = refl

pub room_decides : (set : RuleSet) (targets : List Target) (target : AskedTarget) (count : ℕ) → first_fault (own_checks set target) ≡ None
    → count ≡ length (put_target (put_as target) targets) → (if not (nat_le count 5) then Some fault.Sixth else None) ≡ target_fault set targets target
room_decides set targets target count none is =
    room (nat_le count 5) ∙ ap (λ n. first_fault (unless (nat_le n 5) fault.Sixth ∷ [])) is ∙ sym (passed_front (own_checks set target) _ none)

-- targets that are accepted one by one have no fault by themselves
pub put_formed : (set : RuleSet) (news targets : List Target) → are_put set news targets ≡ true → list_all is_target_formed news ≡ true
put_formed set [] targets good = refl
put_formed set (new ∷ news) targets good =
    let both = both_true (not (is_some (target_fault set targets (asked_of new)))) _ good in
    let none = no_member_fault set targets (asked_of new) (none_found (target_fault set targets (asked_of new)) both.0) in
    ap (λ o. not (is_some o) && list_all is_target_formed news) none ∙ put_formed set news (put_target new targets) both.1

pub good_few : (set : RuleSet) (news targets : List Target) → are_put set news targets ≡ true → All HasValidInput news → length targets ≤ 5
    → length (put_targets news targets) ≤ 5
good_few set [] targets good valid few = few
good_few set (new ∷ news) targets good valid few =
    let both = both_true (not (is_some (target_fault set targets (asked_of new)))) _ good in
    good_few set news (put_target new targets) both.1 (All-tail HasValidInput new news valid)
    (accepted set targets new both.0 (All-head HasValidInput new news valid)).1

pub good_there : (set : RuleSet) (news targets : List Target) → are_put set news targets ≡ true → All HasValidInput news → All (IsSoundTarget set) targets
    → All (IsSoundTarget set) (put_targets news targets)
good_there set [] targets good valid all = all
good_there set (new ∷ news) targets good valid all =
    let both = both_true (not (is_some (target_fault set targets (asked_of new)))) _ good in
    let fits = (accepted set targets new both.0 (All-head HasValidInput new news valid)).0 in
    good_there set news (put_target new targets) both.1 (All-tail HasValidInput new news valid)
    (All_placed (IsSoundTarget set) (λ target. target.id) replacing new targets fits (λ old p. fits) all)

-- ---- the queues of a target

-- the queue that is named, if any, stays
abbrev pub Stays : RuleSet → RuleSet → Option (List ℕ) → Type 0
Stays set next named = (queue : List ℕ) → named ≡ Some queue → has_queue queue set ≡ true → has_queue queue next ≡ true

there_still : (set next : RuleSet) (named : Option (List ℕ)) (make : List ℕ → TargetFault) → Stays set next named
    → option_map make (missing_in set named) ≡ None → option_map make (missing_in next named) ≡ None
there_still set next None make stays none = refl
there_still set next (Some queue) make stays none = by_test (has_queue queue set)
    (λ there. rw (stays queue refl there) refl)
    (λ absent. let never : Some (make queue) ≡ None = rw absent at none in absurd cc)

pub target_still : (set next : RuleSet) (target : Target) → Stays set next (queue_in target.arn) → Stays set next (option_and_then queue_in target.dead_letter)
    → IsSoundTarget set target → IsSoundTarget next target
target_still set next target own dead sound =
    let members : List (Option TargetFault) = map (option_map fault.Member) (member_checks (asked_of target)) in
    let checked = both_none members _ sound.checked in
    let one = kept (not (has_two_inputs (asked_of target))) _ _ checked.1 in
    let queues = two_none (option_map fault.NoQueue (missing_in set (queue_in target.arn))) _ one.1 in
    record {
      checked = passed_front members _ checked.0
          ∙ rw (
            one.0,
            there_still set next (queue_in target.arn) fault.NoQueue own queues.0,
            there_still set next (option_and_then queue_in target.dead_letter) fault.NoDeadLetterQueue dead queues.1,
          ) refl;
      input = sound.input;
    }
