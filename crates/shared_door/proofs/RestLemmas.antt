-- A pass that has nothing open, or made no turn, once it knows more of the history: `still_rests`, `still_unturned`.
use Rattle.std.proofs.Common.{◌≡◌, ℕ, List, [], Option, sym, ◌∙◌, subst}
use mathlib.Core.List.{IsPrefix}
use Rattle.turn_book.specs.declared.view.View.{View}
use Rattle.turn_book.specs.Rule.{Learns, turns_by}

module _ {T : Type 0} (made_by : T → Option ℕ) (rests : ℕ → List T → Type 0)
    (keeps : (n : ℕ) (seen turns : List T) → IsPrefix seen turns → turns_by made_by n turns ≡ turns_by made_by n seen → rests n seen → rests n turns) where
  -- the pass, whose number stays, learned more
  pub still_rests : (old new : View T) → new.number ≡ old.number → Learns made_by old new.seen → rests old.number old.seen → rests new.number new.seen
  still_rests old new number (longer, same) h = subst (λ (n : ℕ). rests n new.seen) (sym number) (keeps old.number old.seen new.seen longer same h)

module _ {T : Type 0} (made_by : T → Option ℕ) where
  pub still_unturned : (n : ℕ) (old : View T) (turns : List T) → old.number ≡ n → Learns made_by old turns → turns_by made_by n old.seen ≡ [] → turns_by made_by n turns ≡ []
  still_unturned n old turns named (_, same) none = subst (λ (m : ℕ). turns_by made_by m turns ≡ turns_by made_by m old.seen) named same ∙ none
