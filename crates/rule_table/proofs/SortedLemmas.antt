-- An allowed change, whose policy is as it is stored and whose inputs are valid, leads from a sound rule set to a sound one: `sound_applied`.
use Rattle.std.proofs.Common.{◌≡◌, ℕ, ◌+◌, ◌<◌, ◌≤◌, ◌⊎◌, true, false, Bool, cond, List, [], ◌∷◌, length, Option, Some, None, refl, sym, ap, ◌∙◌}
use Rattle.std.proofs.Common.{subst, arith, inl, inr, is_some, suc}
use Rattle.std.specs.Prelude.{All, ◌||◌, filter}
use Rattle.std.specs.Option.{option_and_then}
use Rattle.std.specs.List.{list_any}
use Rattle.std.specs.Cmp.Lexicographic.{slice_cmp}
use Rattle.std.specs.Ordering.{nat_cmp}
use Rattle.std.specs.Str.{bytes_eq}
use Rattle.std.specs.declared.cmp.Ordering.TheVariants.{Less}
use Rattle.std.proofs.lemmas.Bool.{false≢true}
use Rattle.std.proofs.lemmas.List.{length-map}
use Rattle.std.proofs.lemmas.List.Elements.{All-head, All-tail, All-cons, All-nil, All-weaker}
use Rattle.event_shape.specs.Names.{default_bus, rule_arn, queue_arn, queue_in}
use Rattle.event_shape.proofs.NameLemmas.{queue_named}
use Rattle.name_rows.specs.Rows.{named, placed, replacing, without, AreSorted}
use Rattle.name_rows.proofs.NameOrder.{Less_from_Greater, same_name, bytes_eq_Less}
use Rattle.name_rows.proofs.RowLemmas.{by_cmp, by_test, named_none, none_greater, others_after, All_placed, sorted_placed, sorted_without}
use Rattle.rule_table.specs.RuleSet.{Archive, Rule, Bus, RuleSet, has_bus, put_archive, without_archive, with_pattern, changed, new_rule, keeping_targets, put_bus, without_bus, put_rule, without_rule, put_target}
use Rattle.rule_table.specs.RuleSet.{put_targets, without_targets, with_rule_changed, rules_in, rules_of, rule_at, applied}
use Rattle.rule_table.specs.RuleSet.{is_dead_letter_of, is_used_by_target, is_used_by_rule, is_used_by_bus, targets_in}
use Rattle.rule_table.specs.Refusal.{are_put, IsAllowed}
use Rattle.rule_table.specs.WellFormed.{IsNoneOrStored, HasValidInput}
use Rattle.rule_table.specs.Sound.{IsSoundTarget, HasSoundTargets, HasItsArn, AreArchivesSound, IsSound}
use Rattle.rule_table.specs.Control.{Control, bus_created, bus_deleted, rule_put, rule_deleted, state_put, targets_put, targets_removed, policy_put}
use Rattle.rule_table.specs.Control.{queue_created, queue_deleted, archive_created, archive_updated, archive_deleted}
use Rattle.rule_targets.specs.declared.target.Target.{Target}
use Rattle.rule_table.proofs.RowLemmas.{changed_none, named_same, named_other, named_name, All_named, bytes_same, bytes_differ, named_without, after_changed, All_without, length_without}
use Rattle.rule_table.proofs.AllowedLemmas.{bus_new, bus_free, archive_new, rule_room, targets_fine, queue_new, queue_free, good_few, good_there, Stays, target_still}

changed_same : {A : Type 0} (f : A → List ℕ) (name : List ℕ) (change : A → A) (row : A) (rows : List A) → bytes_eq (f row) name ≡ true
    → changed f name change (row ∷ rows) ≡ change row ∷ changed f name change rows
changed_same f name change row rows e = rw e refl

changed_other : {A : Type 0} (f : A → List ℕ) (name : List ℕ) (change : A → A) (row : A) (rows : List A) → bytes_eq (f row) name ≡ false
    → changed f name change (row ∷ rows) ≡ row ∷ changed f name change rows
changed_other f name change row rows e = rw e refl

All_changed : {A : Type 0} (P Q : A → Type 0) (f : A → List ℕ) (name : List ℕ) (change : A → A) (rows : List A)
    → ((row : A) → P row → Q row) → ((row : A) → P row → Q (change row)) → All P rows → All Q (changed f name change rows)
All_changed P Q f name change [] same c all = All-nil Q
All_changed P Q f name change (row ∷ rows) same c all =
    let first = All-head P row rows all in
    let others = All_changed P Q f name change rows same c (All-tail P row rows all) in
    by_test (bytes_eq (f row) name)
    (λ e. subst (All Q) (sym (changed_same f name change row rows e)) (All-cons Q (change row) (changed f name change rows) (c row first) others))
    (λ e. subst (All Q) (sym (changed_other f name change row rows e)) (All-cons Q row (changed f name change rows) (same row first) others))

-- if the rows are sorted, only the row of the name changes
All_changed_named : {A : Type 0} (P : A → Type 0) (f : A → List ℕ) (name : List ℕ) (change : A → A) (rows : List A)
    → AreSorted f rows → ((row : A) → named f name rows ≡ Some row → P row → P (change row)) → All P rows → All P (changed f name change rows)
All_changed_named P f name change [] o c all = All-nil P
All_changed_named P f name change (row ∷ rows) o c all =
    let first = All-head P row rows all in
    let others = All-tail P row rows all in
    by_test (bytes_eq (f row) name)
    (λ e. let rest = changed_none f name change rows (others_after f name row rows (bytes_same (f row) name e) o.0) in
    subst (All P) (sym (changed_same f name change row rows e ∙ ap (λ rs. change row ∷ rs) rest))
    (All-cons P (change row) rows (c row (named_same f name row rows e) first) others))
    (λ e. subst (All P) (sym (changed_other f name change row rows e))
    (All-cons P row (changed f name change rows) first
    (All_changed_named P f name change rows o.1 (λ other is. c other (named_other f name row rows e ∙ is)) others)))

sorted_changed : {A : Type 0} (f : A → List ℕ) (name : List ℕ) (change : A → A) (rows : List A)
    → ((row : A) → f (change row) ≡ f row) → AreSorted f rows → AreSorted f (changed f name change rows)
sorted_changed f name change [] c o = tt
sorted_changed {A} f name change (row ∷ rows) c o =
    let above : List ℕ → A → Type 0 = λ name other. slice_cmp nat_cmp name (f other) ≡ Less in
    let others = All_changed (above (f row)) (above (f row)) f name change rows (λ other less. less) (λ other less. rw (c other) less) o.0 in
    by_test (bytes_eq (f row) name)
    (λ e. rw e (rw (c row) others, sorted_changed f name change rows c o.1))
    (λ e. rw e (others, sorted_changed f name change rows c o.1))

length_placed : {A : Type 0} (f : A → List ℕ) (joined : A → A → A) (new : A) (rows : List A) → length (placed f joined new rows) ≤ length rows + 1
length_placed f joined new [] = omega arith
length_placed f joined new (old ∷ rest) =
    by_cmp (slice_cmp nat_cmp (f new) (f old))
    (λ e. rw e (omega arith))
    (λ e. rw e (omega arith))
    (λ e. rw e (omega (arith, length_placed f joined new rest)))

-- if the rows are sorted and one has the name, the number of rows stays
length_placed_same : {A : Type 0} (f : A → List ℕ) (joined : A → A → A) (new : A) (rows : List A) → AreSorted f rows → is_some (named f (f new) rows) ≡ true
    → length (placed f joined new rows) ≡ length rows
length_placed_same f joined new [] o h = cc
length_placed_same f joined new (old ∷ rest) o h =
    by_cmp (slice_cmp nat_cmp (f new) (f old))
    (λ e. let none = named_none f (f new) (old ∷ rest) (none_greater f (f new) (old ∷ rest) o e) in
    let never : false ≡ true = sym (ap is_some none) ∙ h in absurd (false≢true never))
    (λ e. rw e refl)
    (λ e. let other = bytes_eq_Less (f old) (f new) (Less_from_Greater (f new) (f old) e) in
    let still = sym (ap is_some (named_other f (f new) old rest other)) ∙ h in
    rw e (ap suc (length_placed_same f joined new rest o.1 still)))

-- a name that has a row still has one
pub named_placed : {A : Type 0} (f : A → List ℕ) (joined : A → A → A) (new : A) (name : List ℕ) (rows : List A)
    → ((old : A) → f (joined old new) ≡ f new) → is_some (named f name rows) ≡ true → is_some (named f name (placed f joined new rows)) ≡ true
named_placed f joined new name [] j h = cc
named_placed f joined new name (old ∷ rest) j h =
    by_cmp (slice_cmp nat_cmp (f new) (f old))
    (λ e. rw e (by_test (bytes_eq (f new) name)
    (λ same. ap is_some (named_same f name new (old ∷ rest) same))
    (λ other. ap is_some (named_other f name new (old ∷ rest) other) ∙ h)))
    (λ e. let alike : f (joined old new) ≡ f old = j old ∙ same_name (f new) (f old) e in
    rw e (by_test (bytes_eq (f old) name)
    (λ same. ap is_some (named_same f name (joined old new) rest (ap (λ n. bytes_eq n name) alike ∙ same)))
    (λ other. ap is_some (named_other f name (joined old new) rest (ap (λ n. bytes_eq n name) alike ∙ other))
    ∙ sym (ap is_some (named_other f name old rest other)) ∙ h)))
    (λ e. rw e (by_test (bytes_eq (f old) name)
    (λ same. ap is_some (named_same f name old (placed f joined new rest) same))
    (λ other. ap is_some (named_other f name old (placed f joined new rest) other)
    ∙ named_placed f joined new name rest j (sym (ap is_some (named_other f name old rest other)) ∙ h))))

abbrev RuleInOrder : Rule → Type 0
RuleInOrder rule = AreSorted (λ target. target.id) rule.targets

abbrev InOrder : Bus → Type 0
InOrder bus = All RuleInOrder bus.rules

sorted_put_targets : (news targets : List Target) → AreSorted (λ target. target.id) targets → AreSorted (λ target. target.id) (put_targets news targets)
sorted_put_targets [] targets o = o
sorted_put_targets (new ∷ news) targets o =
    sorted_put_targets news (put_target new targets) (sorted_placed (λ target. target.id) replacing new targets (λ old. refl) o)

sorted_without_targets : (ids : List (List ℕ)) (targets : List Target) → AreSorted (λ target. target.id) targets
    → AreSorted (λ target. target.id) (without_targets ids targets)
sorted_without_targets [] targets o = o
sorted_without_targets (id ∷ ids) targets o = sorted_without_targets ids (without (λ target. target.id) id targets) (sorted_without (λ target. target.id) id targets o)

All_without_targets : (P : Target → Type 0) (ids : List (List ℕ)) (targets : List Target) → All P targets → All P (without_targets ids targets)
All_without_targets P [] targets all = all
All_without_targets P (id ∷ ids) targets all = All_without_targets P ids (without (λ target. target.id) id targets) (All_without P (λ target. target.id) id targets all)

length_without_targets : (ids : List (List ℕ)) (targets : List Target) → length (without_targets ids targets) ≤ length targets
length_without_targets [] targets = omega arith
length_without_targets (id ∷ ids) targets =
    let rest = length_without_targets ids (without (λ target. target.id) id targets) in
    omega (arith, rest, length_without (λ target. target.id) id targets)

abbrev HaveArns : Bus → Type 0
HaveArns bus = All (HasItsArn bus.name) bus.rules

-- the bus `default` stays if a bus is changed
default_stays : (name : List ℕ) (change : Bus → Bus) (set : RuleSet) → ((b : Bus) → (change b).name ≡ b.name) → IsSound set
    → is_some (named (λ (b : Bus). b.name) default_bus (changed (λ (b : Bus). b.name) name change set.buses)) ≡ true
default_stays name change set c k =
    after_changed (λ (b : Bus). b.name) name default_bus change set.buses c (λ o. is_some o ≡ true) k.default (λ row same is. refl)

short_put : (new : Rule) (rules : List Rule) → AreSorted (λ rule. rule.name) rules → length rules ≤ 300
    → (is_some (named (λ rule. rule.name) new.name rules) ≡ true) ⊎ (length rules < 300) → length (put_rule new rules) ≤ 300
short_put new rules o small (inl some) = let e = length_placed_same (λ rule. rule.name) keeping_targets new rules o some in omega (arith, e)
short_put new rules o small (inr room) = let e = length_placed (λ rule. rule.name) keeping_targets new rules in omega (arith, e, room)

-- ---- targets stay sound if their queues stay

-- the targets of all rules are still sound if the queues are the same
targets_still : (set next : RuleSet) (buses : List Bus) → next.queues ≡ set.queues → All (λ b. All (HasSoundTargets set) b.rules) buses
    → All (λ b. All (HasSoundTargets next) b.rules) buses
targets_still set next buses same all =
    let stays : (o : Option (List ℕ)) → Stays set next o =
    λ o queue is there. subst (λ queues. is_some (named (λ (q : List ℕ). q) queue queues) ≡ true) (sym same) there in
    let fits : (target : Target) → IsSoundTarget set target → IsSoundTarget next target =
    λ target sound. target_still set next target (stays (queue_in target.arn)) (stays (option_and_then queue_in target.dead_letter)) sound in
    let have : (rule : Rule) → HasSoundTargets set rule → HasSoundTargets next rule =
    λ rule h. (h.0, All-weaker (IsSoundTarget set) (IsSoundTarget next) fits rule.targets h.1) in
    All-weaker (λ b. All (HasSoundTargets set) b.rules) (λ b. All (HasSoundTargets next) b.rules)
    (λ b h. All-weaker (HasSoundTargets set) (HasSoundTargets next) have b.rules h) buses all

-- ---- archives stay sound if no bus of theirs goes

abbrev archive_name : Archive → List ℕ
archive_name archive = archive.name

abbrev OnBusOf : RuleSet → Archive → Type 0
OnBusOf set archive = has_bus archive.bus set ≡ true

abbrev MadeBy : ℕ → Archive → Type 0
MadeBy count archive = (1 ≤ archive.made) × (archive.made ≤ count)

archives_still : (set next : RuleSet) → next.archives ≡ set.archives → set.count ≤ next.count → All (OnBusOf next) set.archives → AreArchivesSound set
    → AreArchivesSound next
archives_still set next same later buses k = record {
  few = subst (λ archives. length archives ≤ 100) (sym same) k.few;
  order = subst (AreSorted archive_name) (sym same) k.order;
  buses = subst (All (OnBusOf next)) (sym same) buses;
  versions = subst (All (MadeBy next.count)) (sym same)
      (All-weaker (MadeBy set.count) (MadeBy next.count) (λ archive made. (made.0, omega (arith, made.1, later))) set.archives k.versions);
}

-- the archives of a rule set whose buses all stay
archives_stay : (set next : RuleSet) → next.archives ≡ set.archives → set.count ≤ next.count
    → ((bus : List ℕ) → has_bus bus set ≡ true → has_bus bus next ≡ true) → AreArchivesSound set → AreArchivesSound next
archives_stay set next same later stays k =
    archives_still set next same later
    (All-weaker (OnBusOf set) (OnBusOf next) (λ archive there. stays archive.bus there) set.archives k.buses) k

-- a bus is changed, and keeps its name
archives_beside : (name : List ℕ) (change : Bus → Bus) (set : RuleSet) → ((b : Bus) → (change b).name ≡ b.name) → AreArchivesSound set
    → AreArchivesSound (record set { buses = changed (λ b. b.name) name change set.buses; count = set.count + 1 })
archives_beside name change set c k =
    archives_stay set (record set { buses = changed (λ b. b.name) name change set.buses; count = set.count + 1 }) refl (omega arith)
    (λ bus there. after_changed (λ (b : Bus). b.name) name bus change set.buses c (λ o. is_some o ≡ true) there (λ row same is. refl)) k

-- a bus without archives goes
buses_left : (name : List ℕ) (set : RuleSet) (rows : List Archive) → filter (λ archive. bytes_eq archive.bus name) rows ≡ []
    → All (OnBusOf set) rows → All (λ archive. is_some (named (λ (b : Bus). b.name) archive.bus (without_bus name set.buses)) ≡ true) rows
buses_left name set [] none all = All-nil (λ archive. is_some (named (λ (b : Bus). b.name) archive.bus (without_bus name set.buses)) ≡ true)
buses_left name set (archive ∷ rows) none all =
    let bus_name : Bus → List ℕ = λ b. b.name in
    let Left : Archive → Type 0 = λ a. is_some (named bus_name a.bus (without_bus name set.buses)) ≡ true in
    (elim (bytes_eq archive.bus name) as (λ b. bytes_eq archive.bus name ≡ b
    → cond b (archive ∷ filter (λ a. bytes_eq a.bus name) rows) (filter (λ a. bytes_eq a.bus name) rows) ≡ [] → All Left (archive ∷ rows)) [
      | true ↦ λ same is. absurd cc
      | false ↦ λ other is.
          let apart : ¬ (name ≡ archive.bus) = λ e. bytes_differ archive.bus name other (sym e) in
          All-cons Left archive rows
          (ap is_some (named_without bus_name name archive.bus set.buses apart) ∙ All-head (OnBusOf set) archive rows all)
          (buses_left name set rows is (All-tail (OnBusOf set) archive rows all))
    ]) refl none

-- ---- each change

sound_rule : (bus name pattern : List ℕ) (enabled : Bool) (set : RuleSet) → IsAllowed (rule_put bus name pattern enabled) set
    → IsSound set → IsSound (applied (rule_put bus name pattern enabled) set)
sound_rule bus name pattern enabled set a k =
    let new : Rule = new_rule bus name pattern enabled in
    let change : Bus → Bus = λ b. record b { rules = put_rule new b.rules } in
    let bus_name : Bus → List ℕ = λ b. b.name in
    let rule_name : Rule → List ℕ = λ r. r.name in
    let IsInOrder : Bus → Type 0 = λ b. AreSorted rule_name b.rules in
    let IsShort : Bus → Type 0 = λ b. length b.rules ≤ 300 in
    let HaveTargets : Bus → Type 0 = λ b. All (HasSoundTargets set) b.rules in
    let HasPolicy : Bus → Type 0 = λ b. IsNoneOrStored b.policy in
    let short : (b : Bus) → named bus_name bus set.buses ≡ Some b → IsShort b → length (put_rule new b.rules) ≤ 300 =
    λ b is small.
    let there : rules_of bus set ≡ b.rules = ap rules_in is in
    let sorted = All_named IsInOrder bus_name bus set.buses b is k.rule_order in
    short_put new b.rules sorted small (subst (λ rs. (is_some (named rule_name name rs) ≡ true) ⊎ (length rs < 300)) there (rule_room bus name pattern enabled set a)) in
    record {
      buses = rw length-map k.buses;
      rules = All_changed_named IsShort bus_name bus change set.buses k.bus_order short k.rules;
      arns = All_changed_named HaveArns bus_name bus change set.buses k.bus_order (λ b is h.
          let its_arn : HasItsArn b.name new = ap (λ n. rule_arn n name) (sym (named_name bus_name bus set.buses b is)) in
          All_placed (HasItsArn b.name) rule_name keeping_targets new b.rules its_arn (λ old p. its_arn) h) k.arns;
      targets = targets_still set (applied (rule_put bus name pattern enabled) set) _ refl
          (All_changed HaveTargets HaveTargets bus_name bus change set.buses (λ b h. h)
          (λ b h. All_placed (HasSoundTargets set) rule_name keeping_targets new b.rules
          (omega arith, All-nil (IsSoundTarget set)) (λ old p. p) h) k.targets);
      queues = k.queues;
      default = default_stays bus change set (λ b. refl) k;
      policies = All_changed HasPolicy HasPolicy bus_name bus change set.buses (λ b h. h) (λ b h. h) k.policies;
      bus_order = sorted_changed bus_name bus change set.buses (λ b. refl) k.bus_order;
      rule_order = All_changed IsInOrder IsInOrder bus_name bus change set.buses (λ b h. h)
          (λ b h. sorted_placed rule_name keeping_targets new b.rules (λ old. refl) h) k.rule_order;
      target_order = All_changed InOrder InOrder bus_name bus change set.buses (λ b h. h)
          (λ b h. All_placed RuleInOrder rule_name keeping_targets new b.rules tt (λ old p. p) h) k.target_order;
      queue_order = k.queue_order;
      archives = archives_beside bus change set (λ b. refl) k.archives;
    }

-- a rule of a bus is changed, and keeps its name and the order of its targets
sound_rule_changed : (bus rule : List ℕ) (change : Rule → Rule) (set : RuleSet) → ((r : Rule) → (change r).name ≡ r.name)
    → ((b : List ℕ) (r : Rule) → HasItsArn b r → HasItsArn b (change r))
    → ((r : Rule) → rule_at bus rule set ≡ Some r → HasSoundTargets set r → HasSoundTargets set (change r)) → ((r : Rule) → RuleInOrder r → RuleInOrder (change r))
    → IsSound set → IsSound (record set { buses = changed (λ b. b.name) bus (with_rule_changed rule change) set.buses; count = set.count + 1 })
sound_rule_changed bus rule change set named_so arn_so good ordered k =
    let bus_name : Bus → List ℕ = λ b. b.name in
    let rule_name : Rule → List ℕ = λ r. r.name in
    let with_rule : Bus → Bus = with_rule_changed rule change in
    let IsInOrder : Bus → Type 0 = λ b. AreSorted rule_name b.rules in
    let IsShort : Bus → Type 0 = λ b. length b.rules ≤ 300 in
    let HaveTargets : Bus → Type 0 = λ b. All (HasSoundTargets set) b.rules in
    let HasPolicy : Bus → Type 0 = λ b. IsNoneOrStored b.policy in
    let have : (b : Bus) → named bus_name bus set.buses ≡ Some b → HaveTargets b → All (HasSoundTargets set) (changed rule_name rule change b.rules) =
    λ b is h.
    let sorted = All_named IsInOrder bus_name bus set.buses b is k.rule_order in
    All_changed_named (HasSoundTargets set) rule_name rule change b.rules sorted
    (λ r at p. good r (ap (λ o. named rule_name rule (rules_in o)) is ∙ at) p) h in
    record {
      buses = rw length-map k.buses;
      rules = All_changed IsShort IsShort bus_name bus with_rule set.buses (λ b h. h) (λ b h. rw length-map h) k.rules;
      arns = All_changed HaveArns HaveArns bus_name bus with_rule set.buses (λ b h. h)
          (λ b h. All_changed (HasItsArn b.name) (HasItsArn b.name) rule_name rule change b.rules (λ r p. p) (λ r p. arn_so b.name r p) h) k.arns;
      targets = targets_still set (record set { buses = changed (λ b. b.name) bus with_rule set.buses; count = set.count + 1 }) _ refl
          (All_changed_named HaveTargets bus_name bus with_rule set.buses k.bus_order have k.targets);
      queues = k.queues;
      default = default_stays bus with_rule set (λ b. refl) k;
      policies = All_changed HasPolicy HasPolicy bus_name bus with_rule set.buses (λ b h. h) (λ b h. h) k.policies;
      bus_order = sorted_changed bus_name bus with_rule set.buses (λ b. refl) k.bus_order;
      rule_order = All_changed IsInOrder IsInOrder bus_name bus with_rule set.buses (λ b h. h)
          (λ b h. sorted_changed rule_name rule change b.rules named_so h) k.rule_order;
      target_order = All_changed InOrder InOrder bus_name bus with_rule set.buses (λ b h. h)
          (λ b h. All_changed RuleInOrder RuleInOrder rule_name rule change b.rules (λ r o. o) (λ r o. ordered r o) h) k.target_order;
      queue_order = k.queue_order;
      archives = archives_beside bus with_rule set (λ b. refl) k.archives;
    }

sound_targets : (bus rule : List ℕ) (targets : List Target) (set : RuleSet) → IsAllowed (targets_put bus rule targets) set → All HasValidInput targets
    → IsSound set → IsSound (applied (targets_put bus rule targets) set)
sound_targets bus rule targets set a valid k =
    sound_rule_changed bus rule (λ r. record r { targets = put_targets targets r.targets }) set (λ r. refl) (λ b r p. p)
    (λ r there p. let fine = subst (λ o. are_put set targets (targets_in o) ≡ true) there (targets_fine bus rule targets set a).1 in
    (good_few set targets r.targets fine valid p.0, good_there set targets r.targets fine valid p.1))
    (λ r o. sorted_put_targets targets r.targets o) k

sound_removal : (bus rule : List ℕ) (ids : List (List ℕ)) (set : RuleSet) → IsSound set → IsSound (applied (targets_removed bus rule ids) set)
sound_removal bus rule ids set k =
    sound_rule_changed bus rule (λ r. record r { targets = without_targets ids r.targets }) set (λ r. refl) (λ b r p. p)
    (λ r there p. (
      omega (arith, length_without_targets ids r.targets, p.0),
      All_without_targets (IsSoundTarget set) ids r.targets p.1,
    ))
    (λ r o. sorted_without_targets ids r.targets o) k

sound_state : (bus name : List ℕ) (enabled : Bool) (set : RuleSet) → IsSound set → IsSound (applied (state_put bus name enabled) set)
sound_state bus name enabled set k =
    sound_rule_changed bus name (λ r. record r { enabled = enabled }) set (λ r. refl) (λ b r p. p) (λ r there p. p) (λ r o. o) k

sound_deletion : (bus name : List ℕ) (set : RuleSet) → IsSound set → IsSound (applied (rule_deleted bus name) set)
sound_deletion bus name set k =
    let bus_name : Bus → List ℕ = λ b. b.name in
    let rule_name : Rule → List ℕ = λ r. r.name in
    let change : Bus → Bus = λ b. record b { rules = without_rule name b.rules } in
    let IsInOrder : Bus → Type 0 = λ b. AreSorted rule_name b.rules in
    let IsShort : Bus → Type 0 = λ b. length b.rules ≤ 300 in
    let HaveTargets : Bus → Type 0 = λ b. All (HasSoundTargets set) b.rules in
    let HasPolicy : Bus → Type 0 = λ b. IsNoneOrStored b.policy in
    record {
      buses = rw length-map k.buses;
      rules = All_changed IsShort IsShort bus_name bus change set.buses (λ b h. h) (λ b h. omega (arith, length_without rule_name name b.rules, h)) k.rules;
      arns = All_changed HaveArns HaveArns bus_name bus change set.buses (λ b h. h)
          (λ b h. All_without (HasItsArn b.name) rule_name name b.rules h) k.arns;
      targets = targets_still set (applied (rule_deleted bus name) set) _ refl
          (All_changed HaveTargets HaveTargets bus_name bus change set.buses (λ b h. h)
          (λ b h. All_without (HasSoundTargets set) rule_name name b.rules h) k.targets);
      queues = k.queues;
      default = default_stays bus change set (λ b. refl) k;
      policies = All_changed HasPolicy HasPolicy bus_name bus change set.buses (λ b h. h) (λ b h. h) k.policies;
      bus_order = sorted_changed bus_name bus change set.buses (λ b. refl) k.bus_order;
      rule_order = All_changed IsInOrder IsInOrder bus_name bus change set.buses (λ b h. h) (λ b h. sorted_without rule_name name b.rules h) k.rule_order;
      target_order = All_changed InOrder InOrder bus_name bus change set.buses (λ b h. h)
          (λ b h. All_without RuleInOrder rule_name name b.rules h) k.target_order;
      queue_order = k.queue_order;
      archives = archives_beside bus change set (λ b. refl) k.archives;
    }

sound_policy : (bus : List ℕ) (policy : Option (List ℕ)) (set : RuleSet) → IsNoneOrStored policy → IsSound set
    → IsSound (applied (policy_put bus policy) set)
sound_policy bus policy set spelled k =
    let bus_name : Bus → List ℕ = λ b. b.name in
    let change : Bus → Bus = λ b. record b { policy = policy } in
    let IsInOrder : Bus → Type 0 = λ b. AreSorted (λ rule. rule.name) b.rules in
    let IsShort : Bus → Type 0 = λ b. length b.rules ≤ 300 in
    let HaveTargets : Bus → Type 0 = λ b. All (HasSoundTargets set) b.rules in
    let HasPolicy : Bus → Type 0 = λ b. IsNoneOrStored b.policy in
    record {
      buses = rw length-map k.buses;
      rules = All_changed IsShort IsShort bus_name bus change set.buses (λ b h. h) (λ b h. h) k.rules;
      arns = All_changed HaveArns HaveArns bus_name bus change set.buses (λ b h. h) (λ b h. h) k.arns;
      targets = targets_still set (applied (policy_put bus policy) set) _ refl
          (All_changed HaveTargets HaveTargets bus_name bus change set.buses (λ b h. h) (λ b h. h) k.targets);
      queues = k.queues;
      default = default_stays bus change set (λ b. refl) k;
      policies = All_changed HasPolicy HasPolicy bus_name bus change set.buses (λ b h. h) (λ b h. spelled) k.policies;
      bus_order = sorted_changed bus_name bus change set.buses (λ b. refl) k.bus_order;
      rule_order = All_changed IsInOrder IsInOrder bus_name bus change set.buses (λ b h. h) (λ b h. h) k.rule_order;
      target_order = All_changed InOrder InOrder bus_name bus change set.buses (λ b h. h) (λ b h. h) k.target_order;
      queue_order = k.queue_order;
      archives = archives_beside bus change set (λ b. refl) k.archives;
    }

sound_creation : (name : List ℕ) (set : RuleSet) → IsAllowed (bus_created name) set → IsSound set → IsSound (applied (bus_created name) set)
sound_creation name set a k =
    let bus_name : Bus → List ℕ = λ b. b.name in
    let new : Bus = record { name = name; policy = None; rules = [] } in
    let put : (P : Bus → Type 0) → P new → All P set.buses → All P (put_bus name set.buses) =
    λ P p all. All_placed P bus_name replacing new set.buses p (λ old q. p) all in
    record {
      buses = omega (arith, length_placed bus_name replacing new set.buses, (bus_new name set a).1);
      rules = put (λ b. length b.rules ≤ 300) (omega arith) k.rules;
      arns = put HaveArns (All-nil (HasItsArn name)) k.arns;
      targets = targets_still set (applied (bus_created name) set) _ refl
          (put (λ b. All (HasSoundTargets set) b.rules) (All-nil (HasSoundTargets set)) k.targets);
      queues = k.queues;
      default = named_placed bus_name replacing new default_bus set.buses (λ old. refl) k.default;
      policies = put (λ b. IsNoneOrStored b.policy) tt k.policies;
      bus_order = sorted_placed bus_name replacing new set.buses (λ old. refl) k.bus_order;
      rule_order = put (λ b. AreSorted (λ rule. rule.name) b.rules) tt k.rule_order;
      target_order = put InOrder (All-nil RuleInOrder) k.target_order;
      queue_order = k.queue_order;
      archives = archives_stay set (applied (bus_created name) set) refl (omega arith)
          (λ bus there. named_placed bus_name replacing new bus set.buses (λ old. refl) there) k.archives;
    }

sound_bus_deletion : (name : List ℕ) (set : RuleSet) → IsAllowed (bus_deleted name) set → IsSound set → IsSound (applied (bus_deleted name) set)
sound_bus_deletion name set a k =
    let bus_name : Bus → List ℕ = λ b. b.name in
    let rest : (P : Bus → Type 0) → All P set.buses → All P (without_bus name set.buses) = λ P all. All_without P bus_name name set.buses all in
    record {
      buses = omega (arith, length_without bus_name name set.buses, k.buses);
      rules = rest (λ b. length b.rules ≤ 300) k.rules;
      arns = rest HaveArns k.arns;
      targets = targets_still set (applied (bus_deleted name) set) _ refl (rest (λ b. All (HasSoundTargets set) b.rules) k.targets);
      queues = k.queues;
      default = ap is_some (named_without bus_name name default_bus set.buses (bytes_differ name default_bus (bus_free name set a).0)) ∙ k.default;
      policies = rest (λ b. IsNoneOrStored b.policy) k.policies;
      bus_order = sorted_without bus_name name set.buses k.bus_order;
      rule_order = rest (λ b. AreSorted (λ rule. rule.name) b.rules) k.rule_order;
      target_order = rest InOrder k.target_order;
      queue_order = k.queue_order;
      archives = archives_still set (applied (bus_deleted name) set) refl (omega arith)
          (buses_left name set set.archives (bus_free name set a).2 k.archives.buses) k.archives;
    }

sound_queue : (name : List ℕ) (set : RuleSet) → IsAllowed (queue_created name) set → IsSound set → IsSound (applied (queue_created name) set)
sound_queue name set a k =
    let next = applied (queue_created name) set in
    let itself : List ℕ → List ℕ = λ queue. queue in
    let stays : (o : Option (List ℕ)) → Stays set next o = λ o queue is there. named_placed itself replacing name queue set.queues (λ old. refl) there in
    let fits : (target : Target) → IsSoundTarget set target → IsSoundTarget next target =
    λ target sound. target_still set next target (stays (queue_in target.arn)) (stays (option_and_then queue_in target.dead_letter)) sound in
    let targets : (rule : Rule) → HasSoundTargets set rule → HasSoundTargets next rule =
    λ rule h. (h.0, All-weaker (IsSoundTarget set) (IsSoundTarget next) fits rule.targets h.1) in
    record {
      buses = k.buses;
      rules = k.rules;
      arns = k.arns;
      targets = All-weaker (λ b. All (HasSoundTargets set) b.rules) (λ b. All (HasSoundTargets next) b.rules)
          (λ b h. All-weaker (HasSoundTargets set) (HasSoundTargets next) targets b.rules h) set.buses k.targets;
      queues = omega (arith, length_placed itself replacing name set.queues, queue_new name set a);
      default = k.default;
      policies = k.policies;
      bus_order = k.bus_order;
      rule_order = k.rule_order;
      target_order = k.target_order;
      queue_order = sorted_placed itself replacing name set.queues (λ old. refl) k.queue_order;
      archives = archives_stay set next refl (omega arith) (λ bus there. there) k.archives;
    }

neither : (a b : Bool) → (a || b) ≡ false → (a ≡ false) × (b ≡ false)
neither true b e = absurd (false≢true (sym e))
neither false b e = (refl, e)

-- a fact of rows, none of which passes the test
All_unless : {A : Type 0} (P Q : A → Type 0) (test : A → Bool) (rows : List A) → ((row : A) → test row ≡ false → P row → Q row)
    → list_any test rows ≡ false → All P rows → All Q rows
All_unless P Q test [] step none all = All-nil Q
All_unless P Q test (row ∷ rows) step none all =
    let both = neither (test row) (list_any test rows) none in
    All-cons Q row rows (step row both.0 (All-head P row rows all)) (All_unless P Q test rows step both.1 (All-tail P row rows all))

-- a queue of another ARN stays
spared : (name arn : List ℕ) (set : RuleSet) → bytes_eq arn (queue_arn name) ≡ false → Stays set (applied (queue_deleted name) set) (queue_in arn)
spared name arn set other queue is there =
    let apart : ¬ (name ≡ queue) = λ same. bytes_differ arn (queue_arn name) other (((queue_named arn queue).0 is).1 ∙ ap queue_arn (sym same)) in
    ap is_some (named_without (λ (q : List ℕ). q) name queue set.queues apart) ∙ there

dead_letter_spared : (name : List ℕ) (dead : Option (List ℕ)) (set : RuleSet) → is_dead_letter_of name dead ≡ false
    → Stays set (applied (queue_deleted name) set) (option_and_then queue_in dead)
dead_letter_spared name None set other queue is there = absurd cc
dead_letter_spared name (Some arn) set other queue is there = spared name arn set other queue is there

target_spared : (name : List ℕ) (set : RuleSet) (target : Target) → is_used_by_target name target ≡ false → IsSoundTarget set target
    → IsSoundTarget (applied (queue_deleted name) set) target
target_spared name set target free sound =
    let both = neither (bytes_eq target.arn (queue_arn name)) (is_dead_letter_of name target.dead_letter) free in
    target_still set (applied (queue_deleted name) set) target (spared name target.arn set both.0)
    (dead_letter_spared name target.dead_letter set both.1) sound

sound_queue_deletion : (name : List ℕ) (set : RuleSet) → IsAllowed (queue_deleted name) set → IsSound set
    → IsSound (applied (queue_deleted name) set)
sound_queue_deletion name set a k =
    let next = applied (queue_deleted name) set in
    let itself : List ℕ → List ℕ = λ queue. queue in
    let rule_spared : (rule : Rule) → is_used_by_rule name rule ≡ false → HasSoundTargets set rule → HasSoundTargets next rule =
    λ rule free h. (h.0, All_unless (IsSoundTarget set) (IsSoundTarget next) (is_used_by_target name) rule.targets (target_spared name set) free h.1) in
    record {
      buses = k.buses;
      rules = k.rules;
      arns = k.arns;
      targets = All_unless (λ b. All (HasSoundTargets set) b.rules) (λ b. All (HasSoundTargets next) b.rules) (is_used_by_bus name) set.buses
          (λ b free h. All_unless (HasSoundTargets set) (HasSoundTargets next) (is_used_by_rule name) b.rules rule_spared free h) (queue_free name set a) k.targets;
      queues = omega (arith, length_without itself name set.queues, k.queues);
      default = k.default;
      policies = k.policies;
      bus_order = k.bus_order;
      rule_order = k.rule_order;
      target_order = k.target_order;
      queue_order = sorted_without itself name set.queues k.queue_order;
      archives = archives_stay set next refl (omega arith) (λ bus there. there) k.archives;
    }

-- archives change, and nothing else
sound_archives : (rows : List Archive) (set : RuleSet) → AreArchivesSound (record set { archives = rows; count = set.count + 1 }) → IsSound set
    → IsSound (record set { archives = rows; count = set.count + 1 })
sound_archives rows set new k = record {
  buses = k.buses;
  rules = k.rules;
  arns = k.arns;
  targets = targets_still set (record set { archives = rows; count = set.count + 1 }) set.buses refl k.targets;
  queues = k.queues;
  default = k.default;
  policies = k.policies;
  bus_order = k.bus_order;
  rule_order = k.rule_order;
  target_order = k.target_order;
  queue_order = k.queue_order;
  archives = new;
}

made_later : (set : RuleSet) (rows : List Archive) → All (MadeBy set.count) rows → All (MadeBy (set.count + 1)) rows
made_later set rows all = All-weaker (MadeBy set.count) (MadeBy (set.count + 1)) (λ archive made. (made.0, omega (arith, made.1))) rows all

sound_archive : (name bus : List ℕ) (pattern : Option (List ℕ)) (days : ℕ) (set : RuleSet) → IsAllowed (archive_created name bus pattern days) set
    → IsSound set → IsSound (applied (archive_created name bus pattern days) set)
sound_archive name bus pattern days set a k =
    let new : Archive = record { name = name; bus = bus; pattern = pattern; made = set.count + 1 } in
    let allowed = archive_new name bus pattern days set a in
    sound_archives (put_archive new set.archives) set (record {
      few = omega (arith, length_placed archive_name replacing new set.archives, allowed.1);
      order = sorted_placed archive_name replacing new set.archives (λ old. refl) k.archives.order;
      buses = All_placed (OnBusOf set) archive_name replacing new set.archives allowed.0 (λ old p. allowed.0) k.archives.buses;
      versions = All_placed (MadeBy (set.count + 1)) archive_name replacing new set.archives (omega arith, omega arith) (λ old p. (omega arith, omega arith))
          (made_later set set.archives k.archives.versions);
    }) k

sound_update : (name : List ℕ) (pattern : Option (List ℕ)) (days : ℕ) (set : RuleSet) → IsSound set → IsSound (applied (archive_updated name pattern days) set)
sound_update name pattern days set k =
    let change : Archive → Archive = λ archive. record archive { pattern = pattern } in
    sound_archives (with_pattern name pattern set.archives) set (record {
      few = rw length-map k.archives.few;
      order = sorted_changed archive_name name change set.archives (λ archive. refl) k.archives.order;
      buses = All_changed (OnBusOf set) (OnBusOf set) archive_name name change set.archives (λ archive p. p) (λ archive p. p) k.archives.buses;
      versions = All_changed (MadeBy (set.count + 1)) (MadeBy (set.count + 1)) archive_name name change set.archives (λ archive p. p) (λ archive p. p)
          (made_later set set.archives k.archives.versions);
    }) k

sound_archive_deletion : (name : List ℕ) (set : RuleSet) → IsSound set → IsSound (applied (archive_deleted name) set)
sound_archive_deletion name set k =
    sound_archives (without_archive name set.archives) set (record {
      few = omega (arith, length_without archive_name name set.archives, k.archives.few);
      order = sorted_without archive_name name set.archives k.archives.order;
      buses = All_without (OnBusOf set) archive_name name set.archives k.archives.buses;
      versions = All_without (MadeBy (set.count + 1)) archive_name name set.archives (made_later set set.archives k.archives.versions);
    }) k

-- a policy that is put is one as it is stored, and inputs of targets that are put are valid
abbrev pub HasStored : Control → Type 0
HasStored (policy_put bus policy) = IsNoneOrStored policy
HasStored (targets_put bus rule targets) = All HasValidInput targets
HasStored _ = Unit {0}

pub sound_applied : (control : Control) (set : RuleSet) → IsAllowed control set → HasStored control → IsSound set → IsSound (applied control set)
sound_applied (bus_created name) set a spelled k = sound_creation name set a k
sound_applied (bus_deleted name) set a spelled k = sound_bus_deletion name set a k
sound_applied (rule_put bus name pattern enabled) set a spelled k = sound_rule bus name pattern enabled set a k
sound_applied (rule_deleted bus name) set a spelled k = sound_deletion bus name set k
sound_applied (state_put bus name enabled) set a spelled k = sound_state bus name enabled set k
sound_applied (targets_put bus rule targets) set a spelled k = sound_targets bus rule targets set a spelled k
sound_applied (targets_removed bus rule ids) set a spelled k = sound_removal bus rule ids set k
sound_applied (policy_put bus policy) set a spelled k = sound_policy bus policy set spelled k
sound_applied (queue_created name) set a spelled k = sound_queue name set a k
sound_applied (queue_deleted name) set a spelled k = sound_queue_deletion name set a k
sound_applied (archive_created name bus pattern days) set a spelled k = sound_archive name bus pattern days set a k
sound_applied (archive_updated name pattern days) set a spelled k = sound_update name pattern days set k
sound_applied (archive_deleted name) set a spelled k = sound_archive_deletion name set k
