-- Rules are named by the ends of their ARNs: `named_first`, `named_kept`, `named_after`.
use Rattle.std.proofs.Common.{◌≡◌, ◌==◌, ℕ, Bool, true, false, cond, List, [], ◌∷◌, ◌++◌, codes, refl, sym, ap, ◌∙◌}
use Rattle.std.specs.Prelude.{All, ◌&&◌, ◌||◌, bytes_eq}
use Rattle.std.specs.List.{list_all, list_any}
use Rattle.std.proofs.lemmas.Bool.{eqb-true, false≢true}
use Rattle.std.proofs.lemmas.List.Elements.{All-head, All-tail, All-nil, All-cons}
use Rattle.event_shape.specs.Names.{default_bus, is_bus_name, is_name_byte, is_short_name, rule_arn}
use Rattle.input_transform.specs.Names.{after_slash}
use Rattle.name_rows.specs.Rows.{replacing, without}
use Rattle.name_rows.proofs.RowLemmas.{All_placed}
use Rattle.rule_table.specs.Control.{Control, bus_created, bus_deleted, rule_put, rule_deleted, state_put, targets_put, targets_removed, policy_put}
use Rattle.rule_table.specs.Control.{queue_created, queue_deleted, archive_created, archive_updated, archive_deleted}
use Rattle.rule_table.specs.RuleSet.{Bus, Rule, RuleSet, applied, changed, first_set, keeping_targets, new_rule, put_rule, put_targets, with_rule_changed, without_targets}
use Rattle.rule_table.specs.WellFormed.{IsWellFormed}
use Rattle.rule_table.proofs.RowLemmas.{All_without}
use Rattle.router_requests.specs.Batch.{Entry, control, accepted, attempt, replay_started, replay_stepped, replay_cancelled, messages_deleted, Batch}
use Rattle.router_core.specs.Tables.{Tables, after_entry, after_entries, after_batch}
use Rattle.router_core.specs.Admitted.{AreAdmitted, IsAdmitted}
use Rattle.duty_journal.specs.Named.{AreNamedByArns, IsNamedByArn}

-- ---- the end of an ARN

abbrev any_slash : List ℕ → Bool
any_slash = list_any (λ c. c == 47)

slash_there : (front name : List ℕ) → any_slash (front ++ 47 ∷ name) ≡ true
slash_there [] name = refl
slash_there (b ∷ front) name =
    elim (b == 47) as (λ t. (t || any_slash (front ++ 47 ∷ name)) ≡ true) [ true ↦ refl | false ↦ slash_there front name ]

after_cut : (front name : List ℕ) → any_slash name ≡ false → after_slash (front ++ 47 ∷ name) ≡ name
after_cut [] name h = rw h refl
after_cut (b ∷ front) name h = rw (slash_there front name) (after_cut front name h)

no_slash_byte : (b : ℕ) → is_name_byte b ≡ true → (b == 47) ≡ false
no_slash_byte b h =
    (elim (b == 47) as (λ t. (b == 47) ≡ t → t ≡ false) [
      | true ↦ λ e. absurd (false≢true (sym (ap is_name_byte (eqb-true b 47 e)) ∙ h))
      | false ↦ λ e. refl
    ]) refl

both_true : (a b : Bool) → (a && b) ≡ true → (a ≡ true) × (b ≡ true)
both_true true b h = (refl, h)
both_true false b h = absurd (false≢true h)

no_slash : (name : List ℕ) → list_all is_name_byte name ≡ true → any_slash name ≡ false
no_slash [] h = refl
no_slash (b ∷ name) h =
    let both = both_true (is_name_byte b) (list_all is_name_byte name) h in
    rw (no_slash_byte b both.0) (no_slash name both.1)

named_by_arn : (bus name : List ℕ) → any_slash name ≡ false → name ≡ after_slash (rule_arn bus name)
named_by_arn bus name h =
    elim (bytes_eq bus default_bus) as (λ b. name ≡ after_slash (cond b
    (codes "arn:aws:events:us-east-1:111122223333:" ++ (codes "rule/" ++ name))
    (codes "arn:aws:events:us-east-1:111122223333:" ++ (codes "rule/" ++ (bus ++ (codes "/" ++ name)))))) [
      | true ↦ sym (after_cut (codes "arn:aws:events:us-east-1:111122223333:rule") name h)
      | false ↦ sym (after_cut (codes "arn:aws:events:us-east-1:111122223333:rule/" ++ bus) name h)
    ]

-- ---- rule sets

abbrev IsNamedBus : Bus → Type 0
IsNamedBus bus = All IsNamedByArn bus.rules

-- a change that keeps P
changed_all : {A : Type 0} (P : A → Type 0) (f : A → List ℕ) (name : List ℕ) (change : A → A) (rows : List A) → ((row : A) → P row → P (change row)) →
    All P rows → All P (changed f name change rows)
changed_all P f name change [] keeps all = All-nil P
changed_all P f name change (row ∷ rows) keeps all =
    let first = All-head P row rows all in
    let others = changed_all P f name change rows keeps (All-tail P row rows all) in
    elim (bytes_eq (f row) name) as (λ b. All P (cond b (change row) row ∷ changed f name change rows)) [
      | true ↦ All-cons P (change row) (changed f name change rows) (keeps row first) others
      | false ↦ All-cons P row (changed f name change rows) first others
    ]

rules_kept : (bus rule : List ℕ) (change : Rule → Rule) (buses : List Bus) → ((r : Rule) → IsNamedByArn r → IsNamedByArn (change r)) →
    All IsNamedBus buses → All IsNamedBus (changed (λ (b : Bus). b.name) bus (with_rule_changed rule change) buses)
rules_kept bus rule change buses keeps all =
    changed_all IsNamedBus (λ (b : Bus). b.name) bus (with_rule_changed rule change) buses
    (λ b rules. changed_all IsNamedByArn (λ (r : Rule). r.name) rule change b.rules keeps rules) all

pub named_first : AreNamedByArns first_set
named_first = All-cons IsNamedBus _ [] (All-nil IsNamedByArn) (All-nil IsNamedBus)

pub named_kept : (c : Control) (set : RuleSet) → IsWellFormed c → AreNamedByArns set → AreNamedByArns (applied c set)
named_kept (bus_created name) set form all =
    All_placed IsNamedBus (λ (b : Bus). b.name) replacing _ set.buses (All-nil IsNamedByArn) (λ old p. All-nil IsNamedByArn) all
named_kept (bus_deleted name) set form all = All_without IsNamedBus (λ (b : Bus). b.name) name set.buses all
named_kept (rule_put bus name pattern enabled) set form all =
    let short = both_true (is_bus_name bus) (is_short_name name) form.0 in
    let bytes = both_true (list_all is_name_byte name) _ short.1 in
    let new : IsNamedByArn (new_rule bus name pattern enabled) = named_by_arn bus name (no_slash name bytes.0) in
    changed_all IsNamedBus (λ (b : Bus). b.name) bus (λ b. record b { rules = put_rule (new_rule bus name pattern enabled) b.rules }) set.buses
    (λ b rules. All_placed IsNamedByArn (λ (r : Rule). r.name) keeping_targets (new_rule bus name pattern enabled) b.rules new (λ old p. new) rules) all
named_kept (rule_deleted bus name) set form all =
    changed_all IsNamedBus (λ (b : Bus). b.name) bus (λ b. record b { rules = without (λ (r : Rule). r.name) name b.rules }) set.buses
    (λ b rules. All_without IsNamedByArn (λ (r : Rule). r.name) name b.rules rules) all
named_kept (state_put bus name enabled) set form all =
    rules_kept bus name (λ r. record r { enabled = enabled }) set.buses (λ r p. p) all
named_kept (targets_put bus rule targets) set form all =
    rules_kept bus rule (λ r. record r { targets = put_targets targets r.targets }) set.buses (λ r p. p) all
named_kept (targets_removed bus rule ids) set form all =
    rules_kept bus rule (λ r. record r { targets = without_targets ids r.targets }) set.buses (λ r p. p) all
named_kept (policy_put bus policy) set form all =
    changed_all IsNamedBus (λ (b : Bus). b.name) bus (λ b. record b { policy = policy }) set.buses (λ b rules. rules) all
named_kept (queue_created name) set form all = all
named_kept (queue_deleted name) set form all = all
named_kept (archive_created name bus pattern days) set form all = all
named_kept (archive_updated name pattern days) set form all = all
named_kept (archive_deleted name) set form all = all

named_entries : (moment : ℕ) (es : List Entry) (t : Tables) → AreAdmitted moment es t → AreNamedByArns t.set → AreNamedByArns (after_entries moment es t).set
named_entries moment [] t admitted all = all
named_entries moment (control c ∷ es) t admitted all =
    named_entries moment es (after_entry moment (control c) t) admitted.1 (named_kept c t.set admitted.0.0 all)
named_entries moment (accepted e ∷ es) t admitted all = named_entries moment es (after_entry moment (accepted e) t) admitted.1 all
named_entries moment (attempt duty outcome ∷ es) t admitted all = named_entries moment es (after_entry moment (attempt duty outcome) t) admitted.1 all
named_entries moment (replay_started s ∷ es) t admitted all = named_entries moment es (after_entry moment (replay_started s) t) admitted.1 all
named_entries moment (replay_stepped s ∷ es) t admitted all = named_entries moment es (after_entry moment (replay_stepped s) t) admitted.1 all
named_entries moment (replay_cancelled name ∷ es) t admitted all = named_entries moment es (after_entry moment (replay_cancelled name) t) admitted.1 all
named_entries moment (messages_deleted queue through ∷ es) t admitted all =
    named_entries moment es (after_entry moment (messages_deleted queue through) t) admitted.1 all

pub named_after : (b : Batch) (t : Tables) → IsAdmitted t b → AreNamedByArns t.set → AreNamedByArns (after_batch b t).set
named_after b t admitted all = named_entries b.moment b.entries t admitted.entries all
