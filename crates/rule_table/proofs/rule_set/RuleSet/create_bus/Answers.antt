use Rattle.std.proofs.Common.{◌≡◌, ◌<◌, ◌+◌, ℕ, List, [], length, suc, true, false, None, rules, refl, sym, subst, arith}
use Rattle.std.specs.Prelude.{nat_lt}
use Rattle.std.proofs.lemmas.Bool.{le-leb}
use Rattle.name_rows.specs.Rows.{placed, replacing}
use Rattle.rule_table.specs.Control.{bus_created}
use Rattle.rule_table.specs.RuleSet.{Rule, RuleSet, has_bus}
use Rattle.rule_table.specs.Refusal.{IsAllowed}
use Rattle.rule_table.specs.Sound.{IsSound}
use Rattle.rule_table.proofs.SortedLemmas.{sound_applied}
use Rattle.rule_table.proofs.rule_set.RuleSet.create_bus.Goals as goal

pub with_bus-requires-clause-sound : goal.with_bus-requires-clause-sound
with_bus-requires-clause-sound c =
    let set = c.args.self.now in
    let name = c.args.name.now in
    let sound = subst IsSound c.self.view_is c.self.invariant in
    let none : has_bus name set ≡ false = subst (λ n. has_bus n set ≡ false) c.as_str.ensures (sym c.if-has_bus.ensures) in
    let few : length set.buses < 100 = search rules in
    let room : nat_lt (length set.buses) 100 ≡ true = le-leb (suc (length set.buses)) 100 (omega (arith, few)) in
    let allowed : IsAllowed (bus_created name) set = rw (none, room) refl in
    let after : List ℕ → List Rule → RuleSet = λ name rs.
    record set { buses = placed (λ b. b.name) replacing (record { name = name; policy = None; rules = rs }) set.buses; count = set.count + 1 } in
    subst (λ rs. IsSound (after c.in_ok-copy.field-0 rs)) (sym c.in_ok-new.ensures)
    (subst (λ name. IsSound (after name [])) (sym c.in_ok-copy.ensures) (sound_applied (bus_created name) set allowed tt sound))
