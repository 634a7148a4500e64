-- The rule of the table of tickets, and what each step returns.
use Rattle.std.specs.Prelude.{◌≡◌, ◌≢◌, ℕ, suc, ◌-◌, ◌<◌, ◌≤◌, List, [], ◌∷◌, ◌++◌, length, slice_get, All, Some}
use mathlib.Core.Option.{some}
use lib.ListN.{get_elem?}
use Rattle.atomic_table.specs.Table.{State, Me, Step}
use Rattle.shared_door.specs.declared.known.Known.{Known}

-- The number is the place, from 1, of the thing in the list.
-- Shown by: outside_tests test_shared_door.rt: two_threads_serve_four_connections.
abbrev pub IsPlace : {C : Type 0} → List C → ℕ × C → Type 0
IsPlace given t = (0 < t.0) × (slice_get given (t.0 - 1) ≡ Some t.1)

-- No ticket of the list has this number.
-- Shown by: two_connections_share_a_number.edit.
abbrev pub IsNew : {C : Type 0} → List (ℕ × C) → ℕ → Type 0
IsNew back n = All (λ t. t.0 ≢ n) back

-- The numbers of two tickets differ.
-- Shown by: outside_tests test_shared_door.rt: two_threads_serve_four_connections.
abbrev pub HasOtherNumber : {C : Type 0} → ℕ × C → ℕ × C → Type 0
HasOtherNumber s t = s.0 ≢ t.0

module _ {C : Type 0} where
  -- The seat that gives tickets and takes them back: what it gave them for, and those that came back.
  -- Shown by: outside_tests test_shared_door.rt: two_threads_serve_four_connections.
  abbrev pub keeper : List C → List (ℕ × C) → Known C
  keeper given back = record { keeps = 1; given = given; back = back; number = 0; came = [] }

  -- the same, while it has a ticket
  abbrev pub holder : List C → List (ℕ × C) → ℕ → List C → Known C
  holder given back n came = record { keeps = 1; given = given; back = back; number = n; came = came }

  -- The seat of a ticket: its number, and what it was given for.
  -- Shown by: outside_tests test_shared_door.rt: two_threads_serve_four_connections.
  abbrev pub ticket : ℕ → List C → Known C
  ticket n came = record { keeps = 0; given = []; back = []; number = n; came = came }

  -- two seats never have the same number, and only one gives tickets
  pub record Apart (v w : Known C) : Type 0 where
    pub keepers : 0 < v.keeps → w.keeps ≡ 0
    pub numbers : 0 < v.number → v.number ≢ w.number

  pub record Fits (given : List C) (back : List (ℕ × C)) (v : Known C) : Type 0 where
    pub keeps : 0 < v.keeps → (v.given ≡ given) × (v.back ≡ back)
    pub place : 0 < v.number → (c : C) × (v.came ≡ c ∷ []) × IsPlace given (v.number, c)
    pub out : 0 < v.number → IsNew back v.number

  -- what was given, and the tickets that came back
  pub record AreTickets (views : List (Known C)) : Type 0 where
    pub given : List C
    pub back : List (ℕ × C)
    pub each : (i : ℕ) (v : Known C) → get_elem? views i ≡ some v → Fits given back v
    pub apart : (i j : ℕ) (v w : Known C) → i ≢ j → get_elem? views i ≡ some v → get_elem? views j ≡ some w → Apart v w
    pub bound : All (λ t. t.0 ≤ length given) back

  -- what is left of a keeper's view once its ticket is a seat of its own, and that ticket
  abbrev pub without_ticket : Known C → Known C
  without_ticket v = record v { number = 0; came = [] }

  abbrev pub ticket_of : Known C → Known C
  ticket_of v = ticket v.number v.came

  abbrev pub with_ticket : Known C → Known C → Known C
  with_ticket v w = record v { number = w.number; came = w.came }

module _ {S C : Type 0} where
  -- The rule of the table of tickets: `AreTickets` of its views.
  -- Shown by: outside_tests test_shared_door.rt: two_threads_serve_four_connections.
  abbrev pub Holds : State S (Known C) → Type 0
  Holds s = AreTickets s.views

  -- the thing that the step announces has the next number
  abbrev pub numbered : (S → C) → Step S → Me S (Known C) → ℕ → Me S (Known C) → Type 0
  numbered value st m n m' =
      (x : S) × (st.said ≡ some x) × (m' ≡ (holder (m.0.given ++ value x ∷ []) m.0.back (suc (length m.0.given)) (value x ∷ []), m.1))

  -- the ticket is back: its number was given for its thing, and no ticket with that number had come back
  abbrev pub ended : Step S → Me S (Known C) → ℕ → Me S (Known C) → Type 0
  ended st m n m' =
      (c : C) × (m.0.came ≡ c ∷ []) × IsPlace m.0.given (m.0.number, c) × IsNew m.0.back m.0.number
      × (m' ≡ (keeper m.0.given (m.0.back ++ (m.0.number, c) ∷ []), m.1))
