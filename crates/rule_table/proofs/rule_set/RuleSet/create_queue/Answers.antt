use Rattle.std.proofs.Common.{◌≡◌, ◌<◌, ◌+◌, length, suc, true, false, rules, refl, sym, subst, arith}
use Rattle.std.specs.Prelude.{nat_lt}
use Rattle.std.proofs.lemmas.Bool.{le-leb}
use Rattle.rule_table.specs.Control.{queue_created}
use Rattle.rule_table.specs.RuleSet.{has_queue, put_queue}
use Rattle.rule_table.specs.Refusal.{IsAllowed}
use Rattle.rule_table.specs.Sound.{IsSound}
use Rattle.rule_table.proofs.SortedLemmas.{sound_applied}
use Rattle.rule_table.proofs.rule_set.RuleSet.create_queue.Goals as goal

pub with_queue-requires-clause-sound : goal.with_queue-requires-clause-sound
with_queue-requires-clause-sound c =
    let set = c.args.self.now in
    let name = c.args.name.now in
    let sound = subst IsSound c.self.view_is c.self.invariant in
    let none : has_queue name set ≡ false = search rules in
    let few : length set.queues < 1000 = search rules in
    let room : nat_lt (length set.queues) 1000 ≡ true = le-leb (suc (length set.queues)) 1000 (omega (arith, few)) in
    let allowed : IsAllowed (queue_created name) set = rw (none, room) refl in
    subst (λ n. IsSound (record set { queues = put_queue n set.queues; count = set.count + 1 })) (sym c.in_ok-copy.ensures)
    (sound_applied (queue_created name) set allowed tt sound)
