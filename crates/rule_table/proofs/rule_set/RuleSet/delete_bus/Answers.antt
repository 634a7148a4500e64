use Rattle.std.proofs.Common.{◌≡◌, length, true, false, is_some, refl, sym, ap, ◌∙◌, subst}
use Rattle.std.specs.Prelude.{nat_le, ◌&&◌}
use Rattle.std.specs.Str.{bytes_eq}
use Rattle.event_shape.specs.Names.{default_bus}
use Rattle.rule_table.specs.Control.{bus_deleted}
use Rattle.rule_table.specs.RuleSet.{has_bus, rules_in, archives_of}
use Rattle.rule_table.specs.Refusal.{is_bus_unused, IsAllowed}
use Rattle.rule_table.proofs.SortedLemmas.{sound_applied}
use Rattle.rule_table.proofs.rule_set.RuleSet.delete_bus.Goals as goal

pub without_bus-requires-clause-sound : goal.without_bus-requires-clause-sound
without_bus-requires-clause-sound c =
    let set = c.args.self.now in
    let name = c.args.name.now in
    let found = c.in_ok-bus.ensures.found in
    let other : bytes_eq name default_bus ≡ false = subst (λ n. bytes_eq n default_bus ≡ false) c.as_str.ensures (sym c.if-is_default.ensures) in
    let there : has_bus name set ≡ true = ap is_some found in
    let free : is_bus_unused name set ≡ true =
    ap (λ o. nat_le (length (rules_in o)) 0 && nat_le (length (archives_of name set)) 0) found ∙ sym c.if-not-is_unused.ensures in
    let allowed : IsAllowed (bus_deleted name) set = rw (other, there, free) refl in
    sound_applied (bus_deleted name) set allowed tt c.in_ok-bus.ensures.sound
