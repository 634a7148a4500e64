-- The connections of a listener over TCP.
use Rattle.std.specs.Prelude.{ℕ, ◌+◌, ◌-◌, ◌^◌, min, max, List, []}
use Rattle.bus_host.specs.declared.door.Ended.{Ended}
use Rattle.bus_host.specs.declared.door.Knock.{Knock}
use Rattle.bus_host.specs.declared.door.Knock.TheVariants.{Conn, Quiet, Closed, Failed, NoMemory}

-- What contracts see of a door over TCP: how many connections may be out, how many are, those given and those that ended, and its count of
-- faults.
-- Shown by: more_connections_are_out_than_its_limit.edit.
pub record Places (I O : Type 0) : Type 0 where
  pub limit : ℕ
  pub out : ℕ
  pub given : List (I × O)
  pub ended : List (Ended I O)
  pub faults : ℕ

-- A door over TCP with this limit that has given no connection.
-- Shown by: a_door_does_not_count_the_links.edit.
abbrev pub fresh : {I O : Type 0} → ℕ → Places I O
fresh limit = record { limit = limit; out = 0; given = []; ended = []; faults = 0 }

-- How many connections are out after a call of `next`: one more if it gave one.
-- Shown by: more_connections_are_out_than_its_limit.edit.
abbrev pub out_after : {I O : Type 0} → ℕ → Knock I O → ℕ
out_after out (Conn input output) = out + 1
out_after out Quiet = out
out_after out Closed = out
out_after out Failed = out
out_after out NoMemory = out

-- How many connections a door gives out at once, for a program with this number of workers: one fewer, and at least one. So one worker
-- stays free for other work.
-- Shown by: outside_tests test_tcp_host.rt: an_idle_client_ends_for_one_that_waits.
abbrev pub limit_for : ℕ → ℕ
limit_for workers = max 1 (workers - 1)

-- The number of links as the host counts it: it stays at the last number of 64 bits.
-- Shown by: a_door_does_not_count_the_links.edit.
abbrev pub counted : ℕ → ℕ
counted number = min number (2 ^ 64 - 1)
