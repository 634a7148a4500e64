use Rattle.std.proofs.Common.{◌≡◌, ◌<◌, ◌+◌, ℕ, length, suc, true, false, is_some, rules, refl, sym, ap, ◌∙◌, subst, arith}
use Rattle.std.specs.Prelude.{nat_lt}
use Rattle.std.proofs.lemmas.Bool.{le-leb}
use Rattle.rule_table.specs.Control.{archive_created}
use Rattle.rule_table.specs.RuleSet.{Archive, has_bus, has_archive, put_archive}
use Rattle.rule_table.specs.Refusal.{IsAllowed}
use Rattle.rule_table.specs.Sound.{IsSound}
use Rattle.rule_table.proofs.SortedLemmas.{sound_applied}
use Rattle.rule_table.proofs.rule_set.RuleSet.create_archive.Goals as goal

pub with_archive-requires-clause-sound : goal.with_archive-requires-clause-sound
with_archive-requires-clause-sound c =
    let set = c.args.self.now in
    let name = c.args.name.now in
    let bus = c.args.bus.now in
    let pattern = c.args.pattern.now in
    let there : has_bus bus set ≡ true = ap is_some c.in_ok-bus_in.ensures.found in
    let none : has_archive name set ≡ false = subst (λ n. has_archive n set ≡ false) c.as_str.ensures (sym c.if-has_archive.ensures) in
    let few : length set.archives < 100 = search rules in
    let room : nat_lt (length set.archives) 100 ≡ true = le-leb (suc (length set.archives)) 100 (omega (arith, few)) in
    let allowed : IsAllowed (archive_created name bus pattern 0) set = rw (there, none, room) refl in
    let made : ℕ → Archive = λ n. record { name = name; bus = bus; pattern = pattern; made = n } in
    let row : c.in_ok-row.row ≡ made (set.count + 1) = c.in_ok-row.ensures ∙ ap made c.next_count.ensures in
    subst (λ (archive : Archive). IsSound (record set { archives = put_archive archive set.archives; count = set.count + 1 })) (sym row)
    (sound_applied (archive_created name bus pattern 0) set allowed tt c.in_ok-bus_in.ensures.sound)

pub returns : goal.returns
returns c =
    let set = c.args.self.now in
    let name = c.args.name.now in
    let bus = c.args.bus.now in
    let pattern = c.args.pattern.now in
    let there : has_bus bus set ≡ true = ap is_some c.in_ok-bus_in.ensures.found in
    let none : has_archive name set ≡ false = subst (λ n. has_archive n set ≡ false) c.as_str.ensures (sym c.if-has_archive.ensures) in
    let few : length set.archives < 100 = search rules in
    let room : nat_lt (length set.archives) 100 ≡ true = le-leb (suc (length set.archives)) 100 (omega (arith, few)) in
    let allowed : IsAllowed (archive_created name bus pattern 0) set = rw (there, none, room) refl in
    let made : ℕ → Archive = λ n. record { name = name; bus = bus; pattern = pattern; made = n } in
    let row : c.in_ok-row.row ≡ made (set.count + 1) = c.in_ok-row.ensures ∙ ap made c.next_count.ensures in
    (allowed, c.in_ok-with_archive.ensures ∙ ap (λ (archive : Archive). record set { archives = put_archive archive set.archives; count = set.count + 1 }) row)
