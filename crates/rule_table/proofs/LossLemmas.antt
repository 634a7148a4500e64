-- What an allowed change takes away: `bus_kept`, `rule_kept`, `target_kept`, `queue_kept` and `archive_kept`.
use Rattle.std.proofs.Common.{◌+◌, ◌≡◌, ◌⊎◌, ℕ, true, false, List, [], ◌∷◌, Option, Some, None, inl, inr, is_some, refl, sym, ap, ◌∙◌, subst, arith}
use Rattle.std.specs.List.{Contains}
use Rattle.std.specs.Str.{bytes_eq}
use Rattle.std.proofs.lemmas.Bool.{false≢true}
use Rattle.std.proofs.lemmas.List.Elements.{Contains-append_right}
use Rattle.name_rows.specs.Rows.{AreSorted, named, replacing, without}
use Rattle.name_rows.proofs.RowLemmas.{by_test}
use Rattle.rule_targets.specs.declared.target.Target.{Target}
use Rattle.rule_table.specs.Control.{Control, bus_created, bus_deleted, rule_put, rule_deleted, state_put, targets_put, targets_removed, policy_put}
use Rattle.rule_table.specs.Control.{queue_created, queue_deleted, archive_created, archive_updated, archive_deleted}
use Rattle.rule_table.specs.RuleSet.{Archive, Rule, Bus, RuleSet, changed, with_rule_changed, applied, new_rule, keeping_targets, put_bus, without_bus, put_rule, without_rule}
use Rattle.rule_table.specs.RuleSet.{put_target, put_targets, without_targets, rules_in, rules_of, targets_in}
use Rattle.rule_table.specs.RuleSet.{has_bus, has_rule, has_queue, has_archive, archives_of, is_queue_used, targets_of}
use Rattle.rule_table.specs.Refusal.{IsAllowed}
use Rattle.rule_table.specs.Sound.{IsSound}
use Rattle.rule_table.specs.Altered.{has_target_of_rule}
use Rattle.rule_table.proofs.RowLemmas.{All_named, bytes_same, bytes_differ, named_without, named_put, named_put_same, after_changed, joined_placed}
use Rattle.rule_table.proofs.AllowedLemmas.{bus_new, bus_free, rule_free, queue_free, by_option, none_of}
use Rattle.rule_table.proofs.SortedLemmas.{named_placed}

-- by whether two names are the same
by_names : {G : Type 0} (a b : List ℕ) → (a ≡ b → G) → (¬ (a ≡ b) → G) → G
by_names a b same apart = by_test (bytes_eq a b) (λ e. same (bytes_same a b e)) (λ e. apart (bytes_differ a b e))

abbrev bus_name : Bus → List ℕ
bus_name bus = bus.name

abbrev rule_name : Rule → List ℕ
rule_name rule = rule.name

abbrev id_of : Target → List ℕ
id_of target = target.id

-- a row of the name is there
abbrev IsIn : {A : Type 0} → (A → List ℕ) → List ℕ → List A → Type 0
IsIn f name rows = is_some (named f name rows) ≡ true

IsIn-changed : {A : Type 0} (f : A → List ℕ) (name other : List ℕ) (change : A → A) (rows : List A) → ((row : A) → f (change row) ≡ f row)
    → IsIn f other rows → IsIn f other (changed f name change rows)
IsIn-changed f name other change rows c there = after_changed f name other change rows c (λ o. is_some o ≡ true) there (λ row same is. refl)

-- ---- buses

bus_stays_there : (name bus : List ℕ) (change : Bus → Bus) (set : RuleSet) → ((b : Bus) → (change b).name ≡ b.name) → has_bus bus set ≡ true
    → IsIn bus_name bus (changed bus_name name change set.buses)
bus_stays_there name bus change set c there = IsIn-changed bus_name name bus change set.buses c there

pub bus_kept : (control : Control) (set : RuleSet) (bus : List ℕ) → IsAllowed control set → has_bus bus set ≡ true
    → (has_bus bus (applied control set) ≡ true) ⊎ ((control ≡ bus_deleted bus) × (rules_of bus set ≡ []) × (archives_of bus set ≡ []))
bus_kept (bus_created name) set bus a there =
    inl (named_placed bus_name replacing (record { name = name; policy = None; rules = [] }) bus set.buses (λ old. refl) there)
bus_kept (bus_deleted name) set bus a there =
    by_names name bus
    (λ same. inr (ap bus_deleted same, subst (λ n. rules_of n set ≡ []) same (bus_free name set a).1, subst (λ n. archives_of n set ≡ []) same (bus_free name set a).2))
    (λ apart. inl (ap is_some (named_without bus_name name bus set.buses apart) ∙ there))
bus_kept (rule_put name rule pattern enabled) set bus a there =
    let new : Rule = new_rule name rule pattern enabled in
    inl (bus_stays_there name bus (λ b. record b { rules = put_rule new b.rules }) set (λ b. refl) there)
bus_kept (rule_deleted name rule) set bus a there =
    inl (bus_stays_there name bus (λ b. record b { rules = without_rule rule b.rules }) set (λ b. refl) there)
bus_kept (state_put name rule enabled) set bus a there =
    inl (bus_stays_there name bus (with_rule_changed rule (λ r. record r { enabled = enabled })) set (λ b. refl) there)
bus_kept (targets_put name rule targets) set bus a there =
    inl (bus_stays_there name bus (with_rule_changed rule (λ r. record r { targets = put_targets targets r.targets })) set (λ b. refl) there)
bus_kept (targets_removed name rule ids) set bus a there =
    inl (bus_stays_there name bus (with_rule_changed rule (λ r. record r { targets = without_targets ids r.targets })) set (λ b. refl) there)
bus_kept (policy_put name policy) set bus a there = inl (bus_stays_there name bus (λ b. record b { policy = policy }) set (λ b. refl) there)
bus_kept (queue_created name) set bus a there = inl there
bus_kept (queue_deleted name) set bus a there = inl there
bus_kept (archive_created archive on pattern days) set bus a there = inl there
bus_kept (archive_updated archive pattern days) set bus a there = inl there
bus_kept (archive_deleted archive) set bus a there = inl there

-- ---- facts of the rules of a bus

-- A fact of a bus that does not hold without rules: a bus that is created or deleted is another one.
created_elsewhere : (name bus : List ℕ) (set : RuleSet) (P : Option Bus → Type 0) → ¬ P None → has_bus name set ≡ false
    → P (named bus_name bus set.buses) → P (named bus_name bus (put_bus name set.buses))
created_elsewhere name bus set P never absent p =
    let new : Bus = record { name = name; policy = None; rules = [] } in
    by_names name bus
    (λ same. absurd (never (subst P (none_of (named bus_name bus set.buses) (subst (λ n. has_bus n set ≡ false) same absent)) p)))
    (λ apart. subst P (sym (named_put bus_name replacing new bus set.buses (λ old. refl) apart)) p)

deleted_elsewhere : (name bus : List ℕ) (set : RuleSet) (P : List Rule → Type 0) → ¬ P [] → rules_of name set ≡ []
    → P (rules_of bus set) → P (rules_in (named bus_name bus (without_bus name set.buses)))
deleted_elsewhere name bus set P never none p =
    by_names name bus
    (λ same. absurd (never (subst P (subst (λ n. rules_of n set ≡ []) same none) p)))
    (λ apart. subst (λ o. P (rules_in o)) (sym (named_without bus_name name bus set.buses apart)) p)

-- a fact of the rules of a bus after a change of the rules of a bus
in_rules : (name bus : List ℕ) (change : List Rule → List Rule) (set : RuleSet) (P : List Rule → Type 0) → P (rules_of bus set)
    → ((b : Bus) → name ≡ bus → named bus_name bus set.buses ≡ Some b → P b.rules → P (change b.rules))
    → P (rules_in (named bus_name bus (changed bus_name name (λ b. record b { rules = change b.rules }) set.buses)))
in_rules name bus change set P p t =
    after_changed bus_name name bus (λ b. record b { rules = change b.rules }) set.buses (λ b. refl) (λ o. P (rules_in o)) p
    (λ b same is. t b same is (subst (λ o. P (rules_in o)) is p))

-- ---- rules

never_named : (name : List ℕ) → ¬ IsIn rule_name name []
never_named name there = false≢true there

rule_stays : (bus name rule : List ℕ) (on : List ℕ) (change : Rule → Rule) (set : RuleSet) → ((r : Rule) → (change r).name ≡ r.name)
    → has_rule bus name set ≡ true
    → IsIn rule_name name (rules_in (named bus_name bus (changed bus_name on (with_rule_changed rule change) set.buses)))
rule_stays bus name rule on change set c there =
    in_rules on bus (changed rule_name rule change) set (IsIn rule_name name) there
    (λ b same is p. IsIn-changed rule_name rule name change b.rules c p)

pub rule_kept : (control : Control) (set : RuleSet) (bus name : List ℕ) → IsAllowed control set → has_rule bus name set ≡ true
    → (has_rule bus name (applied control set) ≡ true) ⊎ (control ≡ rule_deleted bus name)
rule_kept (bus_created new) set bus name a there =
    inl (created_elsewhere new bus set (λ o. IsIn rule_name name (rules_in o)) (never_named name) (bus_new new set a).0 there)
rule_kept (bus_deleted old) set bus name a there = inl (deleted_elsewhere old bus set (IsIn rule_name name) (never_named name) (bus_free old set a).1 there)
rule_kept (rule_put on rule pattern enabled) set bus name a there =
    let new : Rule = new_rule on rule pattern enabled in
    inl (in_rules on bus (put_rule new) set (IsIn rule_name name) there
    (λ b same is p. named_placed rule_name keeping_targets new name b.rules (λ old. refl) p))
rule_kept (rule_deleted on rule) set bus name a there =
    by_names rule name
    (λ same. by_names on bus
    (λ here. inr (ap (rule_deleted on) same ∙ ap (λ b. rule_deleted b name) here))
    (λ apart. inl (in_rules on bus (without_rule rule) set (IsIn rule_name name) there (λ b here is p. absurd (apart here)))))
    (λ apart. inl (in_rules on bus (without_rule rule) set (IsIn rule_name name) there
    (λ b here is p. ap is_some (named_without rule_name rule name b.rules apart) ∙ p)))
rule_kept (state_put on rule enabled) set bus name a there = inl (rule_stays bus name rule on (λ r. record r { enabled = enabled }) set (λ r. refl) there)
rule_kept (targets_put on rule targets) set bus name a there =
    inl (rule_stays bus name rule on (λ r. record r { targets = put_targets targets r.targets }) set (λ r. refl) there)
rule_kept (targets_removed on rule ids) set bus name a there =
    inl (rule_stays bus name rule on (λ r. record r { targets = without_targets ids r.targets }) set (λ r. refl) there)
rule_kept (policy_put on policy) set bus name a there =
    inl (after_changed bus_name on bus (λ b. record b { policy = policy }) set.buses (λ b. refl) (λ o. IsIn rule_name name (rules_in o)) there
    (λ b same is. subst (λ o. IsIn rule_name name (rules_in o)) is there))
rule_kept (queue_created queue) set bus name a there = inl there
rule_kept (queue_deleted queue) set bus name a there = inl there
rule_kept (archive_created archive on pattern days) set bus name a there = inl there
rule_kept (archive_updated archive pattern days) set bus name a there = inl there
rule_kept (archive_deleted archive) set bus name a there = inl there

-- ---- targets

-- among the rules, the rule of this name has a target of this id
abbrev HasIt : List ℕ → List ℕ → List Rule → Type 0
HasIt rule id rules = IsIn id_of id (targets_in (named rule_name rule rules))

never_has_it : (rule id : List ℕ) → ¬ HasIt rule id []
never_has_it rule id there = false≢true there

IsIn-put : (id : List ℕ) (news targets : List Target) → IsIn id_of id targets → IsIn id_of id (put_targets news targets)
IsIn-put id [] targets there = there
IsIn-put id (new ∷ news) targets there =
    IsIn-put id news (put_target new targets) (named_placed id_of replacing new id targets (λ old. refl) there)

-- an id is among those that are removed, or its target stays
is_removed : (ids : List (List ℕ)) (id : List ℕ) → Contains ids id ⊎ ((targets : List Target) → named id_of id (without_targets ids targets) ≡ named id_of id targets)
is_removed [] id = inr (λ targets. refl)
is_removed (first ∷ ids) id =
    by_names first id
    (λ same. inl (0, omega arith, same))
    (λ apart. elim (is_removed ids id) [
      | inl there ↦ inl (Contains-append_right (first ∷ []) ids id there)
      | inr stays ↦ inr (λ targets. stays (without id_of first targets) ∙ named_without id_of first id targets apart)
    ])

-- the targets of a rule change, and this one stays
target_stays : (on rule bus other id : List ℕ) (change : Rule → Rule) (set : RuleSet) → ((r : Rule) → (change r).name ≡ r.name)
    → ((r : Rule) → on ≡ bus → rule ≡ other → IsIn id_of id r.targets → IsIn id_of id (change r).targets) → has_target_of_rule bus other id set ≡ true
    → HasIt other id (rules_in (named bus_name bus (changed bus_name on (with_rule_changed rule change) set.buses)))
target_stays on rule bus other id change set c stays there =
    let Has : Option Rule → Type 0 = λ o. IsIn id_of id (targets_in o) in
    in_rules on bus (changed rule_name rule change) set (HasIt other id) there
    (λ b here is p. after_changed rule_name rule other change b.rules c Has p
    (λ r same at. stays r here same (subst Has at p)))

-- the targets of a rule that is put are those of the rule that it replaces
put_has_it : (new : Rule) (other id : List ℕ) (rules : List Rule) → AreSorted rule_name rules → HasIt other id rules → HasIt other id (put_rule new rules)
put_has_it new other id rules o p =
    let Has : Option Rule → Type 0 = λ r. IsIn id_of id (targets_in r) in
    by_names new.name other
    (λ same. by_option (named rule_name other rules)
    (λ none. absurd (false≢true (subst Has none p)))
    (λ old is. let found = subst (λ n. named rule_name n rules ≡ Some old) (sym same) is in
    let put = joined_placed rule_name keeping_targets new rules old refl o found in
    let at : named rule_name new.name (put_rule new rules) ≡ Some (keeping_targets old new) =
    ap (named rule_name new.name) put ∙ named_put_same rule_name (keeping_targets old new) rules in
    subst (λ n. Has (named rule_name n (put_rule new rules))) same (subst Has (sym at) (subst Has is p))))
    (λ apart. subst Has (sym (named_put rule_name keeping_targets new other rules (λ old. refl) apart)) p)

-- a rule that is deleted has no target
deleted_has_none : (bus rule id : List ℕ) (set : RuleSet) → targets_of bus rule set ≡ [] → ¬ (has_target_of_rule bus rule id set ≡ true)
deleted_has_none bus rule id set empty there = false≢true (subst (IsIn id_of id) empty there)

pub target_kept : (control : Control) (set : RuleSet) (bus rule id : List ℕ) → IsAllowed control set → IsSound set → has_target_of_rule bus rule id set ≡ true
    → (has_target_of_rule bus rule id (applied control set) ≡ true)
    ⊎ ((ids : List (List ℕ)) × (control ≡ targets_removed bus rule ids) × Contains ids id)
target_kept (bus_created new) set bus rule id a k there =
    inl (created_elsewhere new bus set (λ o. HasIt rule id (rules_in o)) (never_has_it rule id) (bus_new new set a).0 there)
target_kept (bus_deleted old) set bus rule id a k there = inl (deleted_elsewhere old bus set (HasIt rule id) (never_has_it rule id) (bus_free old set a).1 there)
target_kept (rule_put on name pattern enabled) set bus rule id a k there =
    let new : Rule = new_rule on name pattern enabled in
    let IsInOrder : Bus → Type 0 = λ b. AreSorted rule_name b.rules in
    inl (in_rules on bus (put_rule new) set (HasIt rule id) there
    (λ b here is p. put_has_it new rule id b.rules (All_named IsInOrder bus_name bus set.buses b is k.rule_order) p))
target_kept (rule_deleted on name) set bus rule id a k there =
    let Has : Option Rule → Type 0 = λ o. IsIn id_of id (targets_in o) in
    by_names name rule
    (λ same. by_names on bus
    (λ here. absurd (deleted_has_none bus rule id set
    (subst (λ b. targets_of b rule set ≡ []) here (subst (λ n. targets_of on n set ≡ []) same (rule_free on name set a))) there))
    (λ apart. inl (in_rules on bus (without_rule name) set (HasIt rule id) there (λ b here is p. absurd (apart here)))))
    (λ apart. inl (in_rules on bus (without_rule name) set (HasIt rule id) there
    (λ b here is p. subst Has (sym (named_without rule_name name rule b.rules apart)) p)))
target_kept (state_put on name enabled) set bus rule id a k there =
    inl (target_stays on name bus rule id (λ r. record r { enabled = enabled }) set (λ r. refl) (λ r here same p. p) there)
target_kept (targets_put on name targets) set bus rule id a k there =
    inl (target_stays on name bus rule id (λ r. record r { targets = put_targets targets r.targets }) set (λ r. refl)
    (λ r here same p. IsIn-put id targets r.targets p) there)
target_kept (targets_removed on name ids) set bus rule id a k there =
    let change : Rule → Rule = λ r. record r { targets = without_targets ids r.targets } in
    elim (is_removed ids id) [
      | inr stays ↦ inl (target_stays on name bus rule id change set (λ r. refl) (λ r here same p. ap is_some (stays r.targets) ∙ p) there)
      | inl listed ↦ by_names on bus
          (λ here. by_names name rule
          (λ same. inr (ids, ap (λ b. targets_removed b name ids) here ∙ ap (λ n. targets_removed bus n ids) same, listed))
          (λ apart. inl (target_stays on name bus rule id change set (λ r. refl) (λ r so same p. absurd (apart same)) there)))
          (λ apart. inl (target_stays on name bus rule id change set (λ r. refl) (λ r here same p. absurd (apart here)) there))
    ]
target_kept (policy_put on policy) set bus rule id a k there =
    inl (after_changed bus_name on bus (λ b. record b { policy = policy }) set.buses (λ b. refl) (λ o. HasIt rule id (rules_in o)) there
    (λ b same is. subst (λ o. HasIt rule id (rules_in o)) is there))
target_kept (queue_created queue) set bus rule id a k there = inl there
target_kept (queue_deleted queue) set bus rule id a k there = inl there
target_kept (archive_created archive on pattern days) set bus rule id a k there = inl there
target_kept (archive_updated archive pattern days) set bus rule id a k there = inl there
target_kept (archive_deleted archive) set bus rule id a k there = inl there

-- ---- queues

abbrev itself : List ℕ → List ℕ
itself name = name

pub queue_kept : (control : Control) (set : RuleSet) (queue : List ℕ) → IsAllowed control set → has_queue queue set ≡ true
    → (has_queue queue (applied control set) ≡ true) ⊎ ((control ≡ queue_deleted queue) × (is_queue_used queue set ≡ false))
queue_kept (bus_created name) set queue a there = inl there
queue_kept (bus_deleted name) set queue a there = inl there
queue_kept (rule_put bus name pattern enabled) set queue a there = inl there
queue_kept (rule_deleted bus name) set queue a there = inl there
queue_kept (state_put bus name enabled) set queue a there = inl there
queue_kept (targets_put bus rule targets) set queue a there = inl there
queue_kept (targets_removed bus rule ids) set queue a there = inl there
queue_kept (policy_put bus policy) set queue a there = inl there
queue_kept (queue_created name) set queue a there = inl (named_placed itself replacing name queue set.queues (λ old. refl) there)
queue_kept (queue_deleted name) set queue a there =
    by_names name queue
    (λ same. inr (ap queue_deleted same, subst (λ n. is_queue_used n set ≡ false) same (queue_free name set a)))
    (λ apart. inl (ap is_some (named_without itself name queue set.queues apart) ∙ there))
queue_kept (archive_created archive on pattern days) set queue a there = inl there
queue_kept (archive_updated archive pattern days) set queue a there = inl there
queue_kept (archive_deleted archive) set queue a there = inl there

-- ---- archives

abbrev archive_name : Archive → List ℕ
archive_name archive = archive.name

pub archive_kept : (control : Control) (set : RuleSet) (archive : List ℕ) → IsAllowed control set → has_archive archive set ≡ true
    → (has_archive archive (applied control set) ≡ true) ⊎ (control ≡ archive_deleted archive)
archive_kept (bus_created name) set archive a there = inl there
archive_kept (bus_deleted name) set archive a there = inl there
archive_kept (rule_put bus name pattern enabled) set archive a there = inl there
archive_kept (rule_deleted bus name) set archive a there = inl there
archive_kept (state_put bus name enabled) set archive a there = inl there
archive_kept (targets_put bus rule targets) set archive a there = inl there
archive_kept (targets_removed bus rule ids) set archive a there = inl there
archive_kept (policy_put bus policy) set archive a there = inl there
archive_kept (queue_created name) set archive a there = inl there
archive_kept (queue_deleted name) set archive a there = inl there
archive_kept (archive_created name bus pattern days) set archive a there =
    let new : Archive = record { name = name; bus = bus; pattern = pattern; made = set.count + 1 } in
    inl (named_placed archive_name replacing new archive set.archives (λ old. refl) there)
archive_kept (archive_updated name pattern days) set archive a there =
    inl (IsIn-changed archive_name name archive (λ row. record row { pattern = pattern }) set.archives (λ row. refl) there)
archive_kept (archive_deleted name) set archive a there =
    by_names name archive
    (λ same. inr (ap archive_deleted same))
    (λ apart. inl (ap is_some (named_without archive_name name archive set.archives apart) ∙ there))
