-- When a connection of the listener over TCP ends without its client's doing. This project's own rule.
use Rattle.std.specs.Prelude.{ℕ, ◌*◌, ◌-◌, ◌≤◌, ◌⊎◌, min, Bool, true, false, IsTrue, Option, Some, None}
use Rattle.std.specs.Duration.{as_nanos}
use Rattle.std.specs.declared.time.Duration.{Duration}

-- A time of at least this number of milliseconds.
-- Shown by: an_idle_client_stays_while_another_waits.edit.
abbrev pub Lasts : ℕ → Duration → Type 0
Lasts millis time = millis * 1_000_000 ≤ as_nanos time

-- When a connection over TCP is over: between messages after 20 s without a byte and a reply, or after 0.25 s if another client waits;
-- inside a message after 20 s, or 60 s after its first byte, or 5 s after it if another client waits.
-- Shown by: an_idle_client_stays_while_another_waits.edit; outside_tests test_tcp_connections.rt: a_connection_ends_when_it_waited_too_long.
abbrev pub IsOver : (idle : Duration) (message : Option Duration) (another_waits : Bool) → Type 0
IsOver idle None another_waits = Lasts 20_000 idle ⊎ (IsTrue another_waits × Lasts 250 idle)
IsOver idle (Some since) another_waits = Lasts 20_000 idle ⊎ (Lasts 60_000 since ⊎ (IsTrue another_waits × Lasts 5_000 since))

-- How many nanoseconds are left of this number of milliseconds once a time has passed: none, if it is as long.
-- Shown by: as left_of.
abbrev pub rest_of : ℕ → Duration → ℕ
rest_of millis time = millis * 1_000_000 - as_nanos time

-- In how many nanoseconds a connection is over if no byte comes and no other client waits. One that `spares` ends between messages
-- as if another client waited.
-- Shown by: a_message_has_only_its_idle_time.edit.
abbrev pub left_of : (idle : Duration) (message : Option Duration) (spares : Bool) → ℕ
left_of idle None true = rest_of 250 idle
left_of idle None false = rest_of 20_000 idle
left_of idle (Some since) spares = min (rest_of 20_000 idle) (rest_of 60_000 since)

-- Since when a connection is idle between messages, by whether its session is busy, the first byte of its unfinished message, and its
-- last byte or reply. Inside a message, and while its session answers one, it is not idle.
-- Shown by: a_busy_connection_counts_as_idle.edit.
abbrev pub idle_since : Bool → Option ℕ → ℕ → Option ℕ
idle_since true message last = None
idle_since false None last = Some last
idle_since false (Some since) last = None

-- Since when a connection waits for the rest of a message, by whether its session is busy, and the first byte of the unfinished message.
-- Shown by: a_message_is_cut_after_its_reply_began.edit.
abbrev pub message_since : Bool → Option ℕ → Option ℕ
message_since true message = None
message_since false message = message
