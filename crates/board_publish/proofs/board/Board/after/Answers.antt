use Rattle.std.proofs.Common.{◌≡◌, ◌⊎◌, inl, inr, ℕ, List, None, refl, sym, ap, ◌∙◌, subst}
use Rattle.rule_table.specs.Control.{Control, bus_created, bus_deleted, policy_put, queue_created, queue_deleted, rule_deleted, rule_put, state_put, targets_put}
use Rattle.rule_table.specs.Control.{targets_removed, archive_created, archive_updated, archive_deleted}
use Rattle.rule_table.specs.RuleSet.{RuleSet, applied}
use Rattle.rule_table.specs.View.{control_of}
use Rattle.rule_table.specs.declared.control.Control.{Control as CodeControl}
use Rattle.board_publish.specs.Matchers.{enabled_at}
use Rattle.board_publish.proofs.ChangeLemmas.{bus_others, created_none, deleted_none, deleted_others, policy_same, put_others, removed_same, rule_others, state_others}
use Rattle.board_publish.proofs.ChangeLemmas.{targets_same}
use Rattle.board_publish.proofs.board.Board.after.Goals as goal

-- the new set is the old one after this change
after : (given : CodeControl) (control : Control) (old new : RuleSet) → new ≡ applied (control_of given) old → control_of given ≡ control
    → new ≡ applied control old
after given control old new is same = is ∙ ap (λ c. applied c old) same

-- the names that are passed are those of the change
named_so : (old new : RuleSet) (bus name given called : List ℕ) → given ≡ bus → called ≡ name
    → ((other one : List ℕ) → (¬ (bus ≡ other)) ⊎ (¬ (name ≡ one)) → enabled_at other one new ≡ enabled_at other one old)
    → (other one : List ℕ) → (¬ (given ≡ other)) ⊎ (¬ (called ≡ one)) → enabled_at other one new ≡ enabled_at other one old
named_so old new bus name given called same alike others =
    subst (λ b. (other one : List ℕ) → (¬ (b ≡ other)) ⊎ (¬ (called ≡ one)) → enabled_at other one new ≡ enabled_at other one old) (sym same)
    (subst (λ n. (other one : List ℕ) → (¬ (bus ≡ other)) ⊎ (¬ (n ≡ one)) → enabled_at other one new ≡ enabled_at other one old) (sym alike) others)

of_rule : (control : Control) (old new : RuleSet) (bus name given called : List ℕ) → new ≡ applied control old → given ≡ bus → called ≡ name
    → ((other one : List ℕ) → (¬ (bus ≡ other)) ⊎ (¬ (name ≡ one)) → enabled_at other one (applied control old) ≡ enabled_at other one old)
    → (other one : List ℕ) → (¬ (given ≡ other)) ⊎ (¬ (called ≡ one)) → enabled_at other one new ≡ enabled_at other one old
of_rule control old new bus name given called is same alike others =
    named_so old new bus name given called same alike
    (subst (λ (s : RuleSet). (other one : List ℕ) → (¬ (bus ≡ other)) ⊎ (¬ (name ≡ one)) → enabled_at other one s ≡ enabled_at other one old) (sym is) others)

pub with_rule_of-requires : goal.with_rule_of-requires
with_rule_of-requires c =
    let old = c.args.self.now in
    let new = c.args.set.now in
    let r = c.in-RulePut in
    let control = rule_put r.bus r.name r.pattern r.enabled in
    of_rule control old new r.bus r.name c.as_str.result.now c.as_str-in-RulePut.result.now
    (after c.args.control.now control old new c.requires (ap control_of r.is)) c.as_str.ensures c.as_str-in-RulePut.ensures
    (rule_others control old r.bus r.name refl (put_others r.bus r.name r.pattern r.enabled old))

pub with_rule_of-requires-in-RuleDeleted : goal.with_rule_of-requires-in-RuleDeleted
with_rule_of-requires-in-RuleDeleted c =
    let old = c.args.self.now in
    let new = c.args.set.now in
    let r = c.in-RuleDeleted in
    let control = rule_deleted r.bus r.name in
    of_rule control old new r.bus r.name c.as_str-in-RuleDeleted.result.now c.as_str-in-RuleDeleted-2.result.now
    (after c.args.control.now control old new c.requires (ap control_of r.is)) c.as_str-in-RuleDeleted.ensures c.as_str-in-RuleDeleted-2.ensures
    (rule_others control old r.bus r.name refl (deleted_others r.bus r.name old))

pub with_rule_of-requires-in-StatePut : goal.with_rule_of-requires-in-StatePut
with_rule_of-requires-in-StatePut c =
    let old = c.args.self.now in
    let new = c.args.set.now in
    let r = c.in-StatePut in
    let control = state_put r.bus r.name r.enabled in
    of_rule control old new r.bus r.name c.as_str-in-StatePut.result.now c.as_str-in-StatePut-2.result.now
    (after c.args.control.now control old new c.requires (ap control_of r.is)) c.as_str-in-StatePut.ensures c.as_str-in-StatePut-2.ensures
    (rule_others control old r.bus r.name refl (state_others r.bus r.name r.enabled old))

of_bus_none : (control : Control) (old new : RuleSet) (bus given : List ℕ) → new ≡ applied control old → given ≡ bus
    → ((name : List ℕ) → enabled_at bus name (applied control old) ≡ None) → (name : List ℕ) → enabled_at given name new ≡ None
of_bus_none control old new bus given is same none name =
    ap (λ b. enabled_at b name new) same ∙ ap (enabled_at bus name) is ∙ none name

of_bus_others : (control : Control) (old new : RuleSet) (bus given : List ℕ) → new ≡ applied control old → given ≡ bus
    → ((other name : List ℕ) → ¬ (bus ≡ other) → enabled_at other name (applied control old) ≡ enabled_at other name old)
    → (other name : List ℕ) → ¬ (given ≡ other) → enabled_at other name new ≡ enabled_at other name old
of_bus_others control old new bus given is same others other name apart =
    ap (enabled_at other name) is ∙ others other name (λ e. apart (same ∙ e))

pub without_bus-requires : goal.without_bus-requires
without_bus-requires c =
    let old = c.args.self.now in
    let new = c.args.set.now in
    let bus = c.in-BusCreated.name in
    let control = bus_created bus in
    let is = after c.args.control.now control old new c.requires (ap control_of c.in-BusCreated.is) in
    record {
      none = of_bus_none control old new bus c.as_str-in-BusCreated.result.now is c.as_str-in-BusCreated.ensures (created_none bus old);
      others = of_bus_others control old new bus c.as_str-in-BusCreated.result.now is c.as_str-in-BusCreated.ensures
          (λ other name apart. bus_others control old bus other name refl apart);
    }

pub without_bus-requires-in-BusDeleted : goal.without_bus-requires-in-BusDeleted
without_bus-requires-in-BusDeleted c =
    let old = c.args.self.now in
    let new = c.args.set.now in
    let bus = c.in-BusDeleted.name in
    let control = bus_deleted bus in
    let is = after c.args.control.now control old new c.requires (ap control_of c.in-BusDeleted.is) in
    record {
      none = of_bus_none control old new bus c.as_str-in-BusDeleted.result.now is c.as_str-in-BusDeleted.ensures (deleted_none bus old);
      others = of_bus_others control old new bus c.as_str-in-BusDeleted.result.now is c.as_str-in-BusDeleted.ensures
          (λ other name apart. bus_others control old bus other name refl apart);
    }

pub with_set-requires : goal.with_set-requires
with_set-requires c = λ bus name.
    let given = c.args.control.now in
    let old = c.args.self.now in
    let new = c.args.set.now in
    elim c.in-TargetsPut.is [
      | inl t ↦
          ap (enabled_at bus name) (after given (targets_put t.0 t.1 t.2.items) old new c.requires (ap control_of t.3))
          ∙ targets_same t.0 t.1 t.2.items old bus name
      | inr more ↦ elim more [
        | inl t ↦
            ap (enabled_at bus name) (after given (targets_removed t.0 t.1 t.2.items) old new c.requires (ap control_of t.3))
            ∙ removed_same t.0 t.1 t.2.items old bus name
        | inr more ↦ elim more [
          | inl p ↦ ap (enabled_at bus name) (after given (policy_put p.0 p.1) old new c.requires (ap control_of p.2)) ∙ policy_same p.0 p.1 old bus name
          | inr more ↦ elim more [
            | inl q ↦ ap (enabled_at bus name) (after given (queue_created q.0) old new c.requires (ap control_of q.1))
            | inr more ↦ elim more [
              | inl q ↦ ap (enabled_at bus name) (after given (queue_deleted q.0) old new c.requires (ap control_of q.1))
              | inr more ↦ elim more [
                | inl a ↦ ap (enabled_at bus name) (after given (archive_created a.0 a.1 a.2 a.3) old new c.requires (ap control_of a.4))
                | inr more ↦ elim more [
                  | inl a ↦ ap (enabled_at bus name) (after given (archive_updated a.0 a.1 a.2) old new c.requires (ap control_of a.3))
                  | inr a ↦ ap (enabled_at bus name) (after given (archive_deleted a.0) old new c.requires (ap control_of a.1))
                ]
              ]
            ]
          ]
        ]
      ]
    ]
