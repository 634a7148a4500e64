-- For private clauses alone: the order in which unclaimed pending duties are due.
use Rattle.std.specs.Prelude.{◌≡◌, ℕ, ◌+◌, ◌*◌, ◌^◌, ◌<◌, ◌≤◌, true, false, Some, None, List, [], ◌∷◌}
use Rattle.delivery_duties.specs.Duties.{IsNoLater, replaced}
use Rattle.key_tree.specs.Entries.{placed, value_at, AreSorted}
use Rattle.delivery_duties.specs.declared.duty.DutyRow.{DutyRow}

-- keys in the order of due moments, then of numbers
abbrev pub due_key : ℕ → ℕ → ℕ
due_key due number = due * 2 ^ 64 + number

-- all rows by number, from those of the line, which may be under any keys, and those of the other list, which are by number
abbrev pub by_number : List (ℕ × DutyRow) → List (ℕ × DutyRow) → List (ℕ × DutyRow)
by_number [] out = out
by_number (entry ∷ line) out = placed (entry.1.number, entry.1) (by_number line out)

-- P is true of each key with its row
abbrev pub AllEntries : (ℕ → DutyRow → Type 0) → List (ℕ × DutyRow) → Type 0
AllEntries P [] = Unit {0}
AllEntries P (entry ∷ rest) = P entry.0 entry.1 × AllEntries P rest

-- no two rows have one number
abbrev pub AreApart : List (ℕ × DutyRow) → List (ℕ × DutyRow) → Type 0
AreApart [] out = Unit {0}
AreApart (entry ∷ line) out = (value_at entry.1.number (by_number line out) ≡ None) × AreApart line out

-- an unclaimed row, under the key of its due moment and number
pub record IsWaiting (key : ℕ) (row : DutyRow) : Type 0 where
  pub key_is : key ≡ due_key row.due row.number
  pub free : row.claimed ≡ false
  pub due_fits : row.due < 2 ^ 64
  pub number_fits : row.number + 1 < 2 ^ 64

-- a claimed row, under its number
pub record IsHeld (key : ℕ) (row : DutyRow) : Type 0 where
  pub key_is : key ≡ row.number
  pub claimed : row.claimed ≡ true
  pub number_fits : row.number + 1 < 2 ^ 64

-- the rows of the line are unclaimed, the others are claimed, and no two have one number
pub record IsSchedule (line out : List (ℕ × DutyRow)) : Type 0 where
  pub line_sorted : AreSorted line
  pub out_sorted : AreSorted out
  pub waiting : AllEntries IsWaiting line
  pub held : AllEntries IsHeld out
  pub apart : AreApart line out

-- the entries are in the order of their keys, and each key has a next one below 2^128
abbrev pub AreInReach : List (ℕ × DutyRow) → Type 0
AreInReach rows = AreSorted rows × AllEntries (λ key row. key + 1 < 2 ^ 128) rows

-- the row of this number is not claimed
abbrev pub IsFreeIn : ℕ → List (ℕ × DutyRow) → Type 0
IsFreeIn number rows = (row : DutyRow) × (value_at number rows ≡ Some row) × (row.claimed ≡ false)

-- the row of this number is not claimed, and due at this moment
abbrev pub IsFreeAt : ℕ → ℕ → List (ℕ × DutyRow) → Type 0
IsFreeAt due number rows = (row : DutyRow) × (value_at number rows ≡ Some row) × (row.claimed ≡ false) × (row.due ≡ due)

-- no row of this number is unclaimed
abbrev pub NoneFreeIn : ℕ → List (ℕ × DutyRow) → Type 0
NoneFreeIn number rows = (row : DutyRow) → value_at number rows ≡ Some row → row.claimed ≡ false → ⊥

-- the row of this number is claimed
abbrev pub IsOutIn : ℕ → List (ℕ × DutyRow) → Type 0
IsOutIn number rows = (row : DutyRow) × (value_at number rows ≡ Some row) × (row.claimed ≡ true)

-- no row is unclaimed
abbrev pub NoneFree : List (ℕ × DutyRow) → Type 0
NoneFree rows = (n : ℕ) (row : DutyRow) → value_at n rows ≡ Some row → row.claimed ≡ true

-- of the unclaimed rows, the one of this number comes first
pub record IsEarliest (rows : List (ℕ × DutyRow)) (number : ℕ) : Type 0 where
  pub row : DutyRow
  pub there : value_at number rows ≡ Some row
  pub free : row.claimed ≡ false
  pub first : (n : ℕ) (other : DutyRow) → value_at n rows ≡ Some other → other.claimed ≡ false → IsNoLater row other

-- the row of this number is unclaimed, comes first and is due at the moment
abbrev pub IsFirst : List (ℕ × DutyRow) → ℕ → ℕ → Type 0
IsFirst rows moment number = (e : IsEarliest rows number) × (e.row.due ≤ moment)

-- no unclaimed row is due at the moment
abbrev pub NoneFirst : List (ℕ × DutyRow) → ℕ → Type 0
NoneFirst rows moment = (n : ℕ) (row : DutyRow) → value_at n rows ≡ Some row → row.claimed ≡ false → moment < row.due

-- the row of this number is claimed, and no other one changes
abbrev pub ClaimsIn : ℕ → List (ℕ × DutyRow) → List (ℕ × DutyRow) → Type 0
ClaimsIn number old new = (row : DutyRow) × (value_at number old ≡ Some row) × (new ≡ replaced (record row { claimed = true }) old)
