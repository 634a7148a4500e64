-- The numbers that a drill draws: a linear congruential generator modulo 2^31.
use Rattle.std.specs.Prelude.{ℕ, ◌+◌, ◌*◌, ◌/◌, ◌%◌}

-- The state after one more draw. The first state is the seed.
-- Shown by: command_tests test_drill_requests.rt: a_drill_has_these_messages, other_seeds_have_other_events.
abbrev pub next : ℕ → ℕ
next x = (x * 1103515245 + 12345) % 2147483648

-- What is drawn in a state: all of it but its 16 lowest bits.
-- Shown by: command_tests test_drill_requests.rt: a_drill_has_these_messages, other_seeds_have_other_events.
abbrev pub draw : ℕ → ℕ
draw x = x / 65536
