-- The rule of the hall's table, and what each step returns.
-- Word 0 is the next ticket, and word 1 the ticket whose turn it is. The slot has the value, unless a pass holds the turn.
use Rattle.std.specs.Prelude.{◌≡◌, ◌≢◌, ◌⊎◌, ℕ, suc, ◌+◌, ◌^◌, ◌<◌, ◌≤◌, Bool, true, false, ◌==◌, List, [], ◌∷◌, filter, All, Option, Some, None, MatchBool}
use mathlib.Core.Option.{some, none}
use mathlib.Core.Option as maybe
use mathlib.Core.List.{IsPrefix}
use lib.ListN.{get_elem?}
use Rattle.atomic_table.specs.Table.{State, Me, Step}
use Rattle.turn_book.specs.declared.view.View.{View}

abbrev pub is_number : Option ℕ → ℕ → Bool
is_number None n = false
is_number (Some m) n = m == n

abbrev pub names_only : ℕ → Option ℕ → Bool
names_only n None = true
names_only n (Some m) = m == n

-- The turns of a list that name this pass.
-- Shown by: outside_tests test_turn_book.rt: four_threads_share_one_history.
abbrev pub turns_by : {T : Type 0} → (T → Option ℕ) → ℕ → List T → List T
turns_by made_by n turns = filter (λ t. is_number (made_by t) n) turns

abbrev pub total : {T : Type 0} → List (View T) → ℕ
total [] = 0
total (v ∷ vs) = v.passes + total vs

-- two seats are never the same pass, never have the same ticket, and only one makes passes; no pass that a seat represents beside its own is
-- another seat's
pub record Apart {T : Type 0} (v w : View T) : Type 0 where
  pub numbers : 0 < v.passes → 0 < w.passes → v.number ≢ w.number
  pub tickets : 0 < v.stage → 0 < w.stage → v.ticket ≢ w.ticket
  pub makers : 0 < v.made → w.made ≡ 0
  pub joined : 0 < w.passes → All (λ p. p.0 ≢ w.number) v.joined

module _ {T : Type 0} (made_by : T → Option ℕ) where
  -- a pass that a seat represents beside its own, the one with number n: the history begins with what that pass had seen, and has no other
  -- turns of it
  pub record IsJoined (made n : ℕ) (log : List T) (p : ℕ × List T) : Type 0 where
    pub seen : IsPrefix p.1 log
    pub own : turns_by made_by p.0 log ≡ turns_by made_by p.0 p.1
    pub below : p.0 < made
    pub other : p.0 ≢ n

  -- the history begins with what the seat has seen, and has no other turns of its pass
  pub record Fits (made ticket serving : ℕ) (log : List T) (v : View T) : Type 0 where
    pub seen : IsPrefix v.seen log
    pub also : IsPrefix v.also log
    pub own : 0 < v.passes → turns_by made_by v.number v.seen ≡ turns_by made_by v.number log
    pub number : 0 < v.passes → v.number < made
    pub maker : 0 < v.made → v.made ≡ made
    pub waits : 0 < v.stage → (0 < v.passes) × (serving ≤ v.ticket) × (v.ticket < ticket)
    pub holds : 1 < v.stage → (v.ticket ≡ serving) × (v.seen ≡ log)
    pub joined : All (IsJoined made v.number log) v.joined

  module _ {V : Type 0} (turns : V → List T) (sound : V → Type 0) where
    -- the value is in its slot and represents the history, or some seat holds the turn
    abbrev pub IsHome : List T → List (maybe.Option (Option V)) → List (View T) → Type 0
    IsHome log homes views =
        ((x : V) × (homes ≡ some (Some x) ∷ []) × (turns x ≡ log) × sound x)
        ⊎ ((homes ≡ none ∷ []) × ((i : ℕ) × (v : View T) × (get_elem? views i ≡ some v) × (1 < v.stage)))

    pub record Kept (ticket serving : ℕ) (homes : List (maybe.Option (Option V))) (views : List (View T)) : Type 0 where
      pub made : ℕ
      pub log : List T
      pub bound : (serving ≤ ticket) × (ticket ≤ 2 ^ 63)
      pub each : (i : ℕ) (v : View T) → get_elem? views i ≡ some v → Fits made ticket serving log v
      pub apart : (i j : ℕ) (v w : View T) → i ≢ j → get_elem? views i ≡ some v → get_elem? views j ≡ some w → Apart v w
      pub home : IsHome log homes views
      pub passes : total views ≡ made
      pub later : (n : ℕ) → made ≤ n → turns_by made_by n log ≡ []

pub record Holds {V T : Type 0} (turns : V → List T) (made_by : T → Option ℕ) (sound : V → Type 0) (s : State (Option V) (View T)) : Type 0 where
  pub ticket : ℕ
  pub serving : ℕ
  pub words : s.words ≡ ticket ∷ serving ∷ []
  pub kept : Kept made_by turns sound ticket serving s.homes s.views

module _ {T : Type 0} where
  -- The first pass: number 0, one pass made, and it has seen the value's own turns.
  -- Shown by: outside_tests test_turn_book.rt: one_pass_gives_its_turns.
  abbrev pub opener : List T → View T
  opener log = record { number = 0; stage = 0; ticket = 0; made = 1; passes = 1; seen = log; also = []; joined = [] }

  -- a seat for moving what was seen
  abbrev pub note : List T → View T
  note log = record { number = 0; stage = 0; ticket = 0; made = 0; passes = 0; seen = log; also = []; joined = [] }

  -- A new pass with this number, which has seen this history and has no turn.
  -- Shown by: a_turn_names_another_pass.edit.
  abbrev pub newcomer : ℕ → List T → View T
  newcomer n log = record { number = n; stage = 0; ticket = 0; made = 0; passes = 1; seen = log; also = []; joined = [] }

  abbrev pub making : View T → View T
  making v = record v { made = suc v.made }

  abbrev pub learning : View T → View T → View T
  learning v w = record v { also = w.seen; passes = v.passes + w.passes }

  abbrev pub gathering : View T → View T → View T
  gathering v w = record (learning v w) { joined = (w.number, w.seen) ∷ v.joined }

  abbrev pub waiting : View T → ℕ → View T
  waiting v t = record v { stage = 1; ticket = t }

  abbrev pub holding : View T → List T → View T
  holding v log = record v { stage = 2; seen = log }

  abbrev pub giving : View T → List T → View T
  giving v log = record v { stage = 0; seen = log }

  abbrev pub looking : View T → List T → View T
  looking v log = record v { seen = log; also = [] }

  -- The history begins with what the pass had seen, and the rest has no turn of this pass.
  -- Shown by: another_turn_is_replaced.edit.
  abbrev pub Learns : (T → Option ℕ) → View T → List T → Type 0
  Learns made_by v log = IsPrefix v.seen log × (turns_by made_by v.number log ≡ turns_by made_by v.number v.seen)

  -- No turn of a history names a pass that was not made, if this number of passes was made.
  -- Shown by: proofs alone.
  abbrev pub IsUnmade : (T → Option ℕ) → ℕ → List T → Type 0
  IsUnmade made_by made log = (n : ℕ) → made ≤ n → turns_by made_by n log ≡ []

  -- Each turn names this pass or no pass.
  -- Shown by: outside_tests test_turn_book.rt: one_pass_gives_its_turns.
  abbrev pub AreOf : (T → Option ℕ) → ℕ → List T → Type 0
  AreOf made_by n added = All (λ t. names_only n (made_by t) ≡ true) added

module _ {V T : Type 0} where
  -- the turns of the value that a seat carries
  abbrev pub carried : (V → List T) → List (ℕ × Option V) → List T
  carried turns [] = []
  carried turns ((slot, None) ∷ rest) = []
  carried turns ((slot, Some x) ∷ rest) = turns x

  -- the ticket is the seat's, if the word was the number expected
  abbrev pub asked : Step (Option V) → Me (Option V) (View T) → ℕ → Me (Option V) (View T) → Type 0
  asked st m n m' = MatchBool (n == st.first) (m' ≡ (waiting m.0 n, m.1)) (m' ≡ m)

  -- the turn has come, and the seat has the slot with the value
  abbrev pub came : (V → List T) → (T → Option ℕ) → (V → Type 0) → Step (Option V) → Me (Option V) (View T) → ℕ → Me (Option V) (View T) → Type 0
  came turns made_by sound st m n m' = MatchBool (n == m.0.ticket) ((x : V) × (m' ≡ (
    holding m.0 (turns x),
    (
      0,
      Some x,
    ) ∷ m.1,
  )) × sound x × Learns made_by m.0 (turns x)) (m' ≡ m)

  abbrev pub gave : (V → List T) → Step (Option V) → Me (Option V) (View T) → ℕ → Me (Option V) (View T) → Type 0
  gave turns st m n m' = m' ≡ (giving m.0 (carried turns m.1), [])

  -- the seat has seen the history as it is, which has no turn of a pass that is not made yet
  abbrev pub looked : (T → Option ℕ) → Step (Option V) → Me (Option V) (View T) → ℕ → Me (Option V) (View T) → Type 0
  looked made_by st m n m' =
      (log : List T) × (m' ≡ (looking m.0 log, m.1)) × IsPrefix m.0.also log × Learns made_by m.0 log
      × ((k : ℕ) → 0 < m.0.made → m.0.made ≤ k → turns_by made_by k log ≡ [])
