-- What a pass owes to its door: `owes_rests`, `rests_owes`.
use Rattle.std.proofs.Common.{ℕ, inl, inr, List, [], map, refl, sym, ap, ◌∙◌, append-nil}
use Rattle.std.proofs.lemmas.List.{map-append}
use Rattle.router_core.specs.Tables.{first_tables}
use Rattle.router_history.specs.declared.history.Turn.{Turn}
use Rattle.router_history.specs.History.{State, begun, claims_of, state_of}
use Rattle.router_history.specs.History as history
use Rattle.router_history.specs.Book.{turn_of, Rests}
use Rattle.router_history.specs.Visit.{OwesNothing}
use Rattle.router_history.proofs.TurnLemmas.{state_append, none_of_mine}
use Rattle.router_sessions.proofs.DeskLemmas.{own_turns, none_added}

-- a pass that owes nothing has no open claim
pub owes_rests : (n : ℕ) (seen : List Turn) → OwesNothing n seen → Rests n (map turn_of seen)
owes_rests n seen owes = elim (owes seen ([], append-nil seen) refl) [
  | inl none ↦ none_of_mine n (map turn_of seen) (begun first_tables) (own_turns n seen ∙ ap (map turn_of) none) refl
  | inr rests ↦ rests
]

-- a pass without an open claim has none in a longer history to which it added nothing
pub rests_owes : (n : ℕ) (seen : List Turn) → Rests n (map turn_of seen) → OwesNothing n seen
rests_owes n seen rests = λ later (rest, is) same. inr
    (ap (λ (ts : List history.Turn). claims_of n (state_of ts).open_claims) (sym (ap (map turn_of) is) ∙ map-append turn_of seen rest)
    ∙ ap (λ (s : State). claims_of n s.open_claims) (state_append (begun first_tables) (map turn_of seen) (map turn_of rest))
    ∙ none_of_mine n (map turn_of rest) (state_of (map turn_of seen)) (none_added n seen rest later is same) rests)
