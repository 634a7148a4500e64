-- All replays, as one list in the order of their starts. This project's own rules.
use Rattle.std.specs.Prelude.{◌≡◌, ◌==◌, ℕ, ◌+◌, Bool, true, false, not, if◌then◌else◌, List, [], ◌∷◌, ◌++◌, length, map, filter, Option, Some, None, All}
use Rattle.std.specs.List.{list_any}
use Rattle.std.specs.Str.{bytes_eq}
use Rattle.name_rows.specs.Rows as rows
use Rattle.key_tree.specs.Entries.{value_at}
use Rattle.archive_keep.specs.Archive.{Archive}
use Rattle.replay_run.specs.declared.settings.ReplaySettings.{ReplaySettings}
use Rattle.replay_run.specs.declared.row.ReplayRow.{ReplayRow}
use Rattle.replay_run.specs.declared.row.NumberedName.{NumberedName}
use Rattle.replay_run.specs.declared.state.ReplayState.{ReplayState}
use Rattle.replay_run.specs.declared.state.ReplayState.TheVariants.{Running, Completed, Cancelled}
use Rattle.replay_run.specs.Selection.{selection_of}
use Rattle.replay_run.specs.Replay.{new_replay, replay_state, advanced, after_cancellation}

-- The greatest number of replays that run at once.
-- Shown by: proofs alone.
abbrev pub most_running : ℕ
most_running = 10

-- The name of a replay.
-- Shown by: proofs alone.
abbrev pub name_of : ReplayRow → List ℕ
name_of row = row.settings.name

abbrev pub is_running_state : ReplayState → Bool
is_running_state Running = true
is_running_state Completed = false
is_running_state Cancelled = false

-- The replay is running.
-- Shown by: a_completed_replay_still_runs.edit.
abbrev pub is_running : ReplayRow → Bool
is_running row = is_running_state (replay_state row.replay)

-- The replays that are running, in the order of their starts. The first of them is stepped next.
-- Shown by: the_last_started_is_stepped_first.edit.
abbrev pub running : List ReplayRow → List ReplayRow
running all = filter is_running all

-- A running replay sends its events to this bus.
-- Shown by: proofs alone.
abbrev pub is_sent_to : List ℕ → List ReplayRow → Bool
is_sent_to bus all = list_any (λ row. bytes_eq row.settings.bus bus) (running all)

-- The replay of a name. No two replays have one name.
-- Shown by: proofs alone.
abbrev pub found : List ℕ → List ReplayRow → Option ReplayRow
found name all = rows.named name_of name all

abbrev pub if_running : Option ReplayRow → Option ReplayRow
if_running None = None
if_running (Some row) = if is_running row then Some row else None

-- The replay of a name, if it is running.
-- Shown by: proofs alone.
abbrev pub running_named : List ℕ → List ReplayRow → Option ReplayRow
running_named name all = if_running (found name all)

-- The number of the next start. The first one is 1.
-- Shown by: proofs alone.
abbrev pub next_number : List ReplayRow → ℕ
next_number all = length all + 1

-- The replay at a moment that changed it: if it is not running, this is the moment of its end.
-- Shown by: proofs alone.
abbrev pub changed_at : ℕ → ReplayRow → ReplayRow
changed_at moment row = if is_running row then row else record row { ended_at = Some moment }

-- A replay at its start: it has this number, and selects of the archive what its settings say. If it selects nothing, it has ended.
-- Shown by: proofs alone.
abbrev pub first_row : Archive → ReplaySettings → ℕ → ReplayRow
first_row archive settings number = changed_at settings.started_at (record {
  number = number;
  settings = settings;
  replay = new_replay (selection_of settings.range settings.started_at archive);
  ended_at = None;
})

-- A replay after a step at this moment. Only a running one changes.
-- Shown by: a_step_is_not_counted.edit.
abbrev pub stepped_at : ℕ → ReplayRow → ReplayRow
stepped_at moment row = if is_running row then changed_at moment (record row { replay = advanced row.replay }) else row

-- A replay after a cancellation at this moment. Only a running one changes.
-- Shown by: a_cancellation_ends_later.edit.
abbrev pub cancelled_at : ℕ → ReplayRow → ReplayRow
cancelled_at moment row = if is_running row then changed_at moment (record row { replay = after_cancellation row.replay }) else row

-- The replays with this change of the one of this name. Unchanged if there is none.
-- Shown by: proofs alone.
abbrev pub changed_named : List ℕ → (ReplayRow → ReplayRow) → List ReplayRow → List ReplayRow
changed_named name change [] = []
changed_named name change (row ∷ others) = if bytes_eq (name_of row) name then change row ∷ others else row ∷ changed_named name change others

-- The replays after a step of the one of this name, at this moment.
-- Shown by: the_last_started_is_stepped_first.edit.
abbrev pub stepped_in : List ℕ → ℕ → List ReplayRow → List ReplayRow
stepped_in name moment all = changed_named name (stepped_at moment) all

-- The replays after a cancellation of the one of this name, at this moment.
-- Shown by: a_cancellation_ends_later.edit.
abbrev pub cancelled_in : List ℕ → ℕ → List ReplayRow → List ReplayRow
cancelled_in name moment all = changed_named name (cancelled_at moment) all

abbrev pub numbered : ReplayRow → NumberedName
numbered row = record { name = name_of row; number = row.number }

-- The name and the number of a replay, if there is one.
-- Shown by: proofs alone.
abbrev pub numbered_if : Option ReplayRow → Option NumberedName
numbered_if None = None
numbered_if (Some row) = Some (numbered row)

-- The name in a row of names.
-- Shown by: proofs alone.
abbrev pub number_name : NumberedName → List ℕ
number_name row = row.name

abbrev pub with_name : ReplayRow → List NumberedName → List NumberedName
with_name row names = rows.placed number_name rows.replacing (numbered row) names

abbrev pub names_after : List NumberedName → List ReplayRow → List NumberedName
names_after names [] = names
names_after names (row ∷ later) = names_after (with_name row names) later

-- The names of all replays with their numbers, in the byte order of the names.
-- Shown by: proofs alone.
abbrev pub names_of : List ReplayRow → List NumberedName
names_of all = names_after [] all

-- for private clauses: the rows of entries, which a tree has by number
abbrev pub row_of : ℕ × ReplayRow → ReplayRow
row_of entry = entry.1

abbrev pub rows_in : List (ℕ × ReplayRow) → List ReplayRow
rows_in entries = map row_of entries

-- the entries have the numbers of their rows, counted from this one
abbrev pub AreCounted : ℕ → List (ℕ × ReplayRow) → Type 0
AreCounted n [] = Unit {0}
AreCounted n (entry ∷ others) = (entry.0 ≡ n) × (entry.1.number ≡ n) × AreCounted (n + 1) others

-- no two rows have one name
abbrev pub HaveOwnNames : List ReplayRow → Type 0
HaveOwnNames [] = Unit {0}
HaveOwnNames (row ∷ others) = All (λ other. bytes_eq (name_of other) (name_of row) ≡ false) others × HaveOwnNames others

abbrev pub number_of : ReplayRow → ℕ
number_of row = row.number

-- the numbers of the rows that are running
abbrev pub running_numbers : List ReplayRow → List ℕ
running_numbers all = map number_of (running all)

-- the row, if there is one, sends its events to this bus
abbrev pub is_row_sent_to : List ℕ → Option ReplayRow → Bool
is_row_sent_to bus None = false
is_row_sent_to bus (Some row) = bytes_eq row.settings.bus bus

-- one of the rows with these numbers sends its events to this bus
abbrev pub is_one_sent_to : List ℕ → List (ℕ × ReplayRow) → List ℕ → Bool
is_one_sent_to bus entries numbers = list_any (λ n. is_row_sent_to bus (value_at n entries)) numbers

-- these are all replays, the numbers of those that are running, and all names
pub record AreSound (entries : List (ℕ × ReplayRow)) (numbers : List ℕ) (names : List NumberedName) : Type 0 where
  pub counted : AreCounted 1 entries
  pub apart : HaveOwnNames (rows_in entries)
  pub runs : numbers ≡ running_numbers (rows_in entries)
  pub named : names ≡ names_of (rows_in entries)

-- the numbers of running replays after one of them changed, and runs on or does not
abbrev pub numbers_after : Bool → ℕ → List ℕ → List ℕ
numbers_after true number numbers = numbers
numbers_after false number numbers = filter (λ other. not (other == number)) numbers

-- the numbers of running replays after one started, and runs or does not
abbrev pub numbers_with : Bool → ℕ → List ℕ → List ℕ
numbers_with true number numbers = numbers ++ number ∷ []
numbers_with false number numbers = numbers
