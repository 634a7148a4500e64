-- A pass that made no turn owes nothing. Answers cite `first_owes`, `new_owes` and `still_owes`.
use Rattle.std.proofs.Common.{◌≡◌, ℕ, List, [], sym, subst}
use Rattle.turn_book.specs.declared.view.View.{View}
use Rattle.turn_book.specs.Rule.{turns_by, opener, newcomer, Learns}
use Rattle.router_history.specs.declared.history.Turn.{Turn}
use Rattle.router_history.specs.Visit.{OwesNothing, owes_unturned, owes_later}

-- the first pass of a book whose turns no pass made
pub first_owes : (v : View Turn) (turns : List Turn) → v ≡ opener turns → ((n : ℕ) → turns_by (λ t. t.pass) n turns ≡ []) → OwesNothing v.number v.seen
first_owes v turns is none = subst (λ (w : View Turn). OwesNothing w.number w.seen) (sym is) (owes_unturned 0 turns (none 0))

-- a pass that was just made
pub new_owes : (v : View Turn) (n : ℕ) (turns : List Turn) → v ≡ newcomer n turns → turns_by (λ t. t.pass) n turns ≡ [] → OwesNothing v.number v.seen
new_owes v n turns is none = subst (λ (w : View Turn). OwesNothing w.number w.seen) (sym is) (owes_unturned n turns none)

-- a pass that made no turn since
pub still_owes : (old new : View Turn) → new.number ≡ old.number → Learns (λ t. t.pass) old new.seen → OwesNothing old.number old.seen
    → OwesNothing new.number new.seen
still_owes old new number (longer, same) h = subst (λ (n : ℕ). OwesNothing n new.seen) (sym number) (owes_later old.number old.seen new.seen longer same h)
