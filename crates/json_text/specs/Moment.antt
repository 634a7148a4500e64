-- Times as the crates above keep them.
use Rattle.std.specs.Prelude.{ℕ, ◌≤◌}

-- A whole number of seconds since 1970-01-01T00:00:00Z, at most 250,000,000,000 (`LAST_MOMENT`), a second in the year 9892 (this project's
-- own bound).
-- Shown by: event_tests test_event_shape.rt: a_time_gives_its_moment_or_none.
abbrev pub IsMoment : ℕ → Type 0
IsMoment n = n ≤ 250000000000
