-- What attempts did, in numbers.
use Rattle.std.specs.Prelude.{◌+◌, Bool, true, false, cond}
use Rattle.delivery_duties.specs.declared.outcome.Fate.{Fate}
use Rattle.delivery_duties.specs.declared.outcome.Fate.TheVariants.{Pending, Delivered, DeadLettered, Dropped}
use Rattle.courier_run.specs.declared.turned.Turned.{Turned}

abbrev pub is_delivered : Fate → Bool
is_delivered Delivered = true
is_delivered Pending = false
is_delivered DeadLettered = false
is_delivered Dropped = false

abbrev pub is_dead_lettered : Fate → Bool
is_dead_lettered DeadLettered = true
is_dead_lettered Pending = false
is_dead_lettered Delivered = false
is_dead_lettered Dropped = false

abbrev pub is_dropped : Fate → Bool
is_dropped Dropped = true
is_dropped Pending = false
is_dropped Delivered = false
is_dropped DeadLettered = false

-- No attempt: four zeros.
-- Shown by: outside_tests test_courier_run.rt: a_turn_makes_attempts_within_its_budget.
abbrev pub no_attempt : Turned
no_attempt = record { attempts = 0; delivered = 0; dead = 0; dropped = 0 }

-- these attempts and one more with this fate
abbrev pub with_fate : Turned → Fate → Turned
with_fate t fate = record {
  attempts = t.attempts + 1;
  delivered = t.delivered + cond (is_delivered fate) 1 0;
  dead = t.dead + cond (is_dead_lettered fate) 1 0;
  dropped = t.dropped + cond (is_dropped fate) 1 0;
}
