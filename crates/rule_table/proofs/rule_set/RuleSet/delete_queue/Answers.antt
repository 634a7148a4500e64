use Rattle.std.proofs.Common.{◌≡◌, true, false, refl, sym, subst}
use Rattle.rule_table.specs.Control.{queue_deleted}
use Rattle.rule_table.specs.RuleSet.{has_queue, is_queue_used}
use Rattle.rule_table.specs.Refusal.{IsAllowed}
use Rattle.rule_table.proofs.SortedLemmas.{sound_applied}
use Rattle.rule_table.proofs.rule_set.RuleSet.delete_queue.Goals as goal

pub without_queue-requires-clause-sound : goal.without_queue-requires-clause-sound
without_queue-requires-clause-sound c =
    let set = c.args.self.now in
    let name = c.args.name.now in
    let there : has_queue name set ≡ true = subst (λ n. has_queue n set ≡ true) c.as_str.ensures (sym c.if-not-queue.ensures) in
    let free : is_queue_used name set ≡ false = subst (λ n. is_queue_used n set ≡ false) c.as_str-2.ensures (sym c.if-uses_queue.ensures.used) in
    let allowed : IsAllowed (queue_deleted name) set = rw (there, free) refl in
    sound_applied (queue_deleted name) set allowed tt c.if-uses_queue.ensures.sound
