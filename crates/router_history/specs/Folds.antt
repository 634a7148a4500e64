-- The tables with their claims set aside.
use Rattle.std.specs.Prelude.{ℕ, false, map}
use Rattle.delivery_duties.specs.declared.duty.DutyRow.{DutyRow}
use Rattle.router_core.specs.Tables.{Tables}

-- A pending duty, not claimed.
-- Shown by: proofs alone.
abbrev pub unclaimed_entry : ℕ × DutyRow → ℕ × DutyRow
unclaimed_entry (number, row) = (number, record row { claimed = false })

-- The tables with no duty claimed.
-- Shown by: proofs alone.
abbrev pub without_claims : Tables → Tables
without_claims t = record t { duties = record t.duties { pending = map unclaimed_entry t.duties.pending } }
