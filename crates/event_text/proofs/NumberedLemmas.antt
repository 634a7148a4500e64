-- The event that was read: `same_event`, `text_found`, `text_is_none`; the event whose text the bytes are: `whole`.
use Rattle.std.proofs.Common.{◌≡◌, ℕ, Option, Some, None, List, [], ◌++◌, ap, subst, ◌∙◌}
use Rattle.std.proofs.lemmas.List.{append-nil}
use Rattle.std.specs.Prelude.{MatchOption}
use Rattle.json_text.specs.Compact.{compact_text}
use Rattle.event_shape.specs.Event.{Event, IsEventText, event_tree}
use Rattle.event_text.specs.Numbered.{IsNumberedText}
use Rattle.event_text.specs.Written.{BeginsEvent}

pub whole : (bytes rest : List ℕ) → BeginsEvent bytes rest → rest ≡ [] → IsNumberedText bytes
whole bytes rest b none = (
  b.event,
  record {
    written = b.written ∙ ap (λ x. compact_text (event_tree b.event None) ++ x) none ∙ append-nil (compact_text (event_tree b.event None));
    is_event = b.is_event;
  },
  b.number,
  b.account,
)

-- the event that was found is the one of the text
pub same_event : (bytes : List ℕ) (found : Option Event) (event : Event) → ((e : Event) → IsEventText bytes e → found ≡ Some e) → found ≡ Some event
    → (numbered : IsNumberedText bytes) → event ≡ numbered.0
same_event bytes found event only is numbered = let other : found ≡ Some numbered.0 = only numbered.0 numbered.1 in cc

pub text_found : (bytes : List ℕ) (found : Option Event) (event : Event) → MatchOption found ((e : Event) → IsEventText bytes e → ⊥) (λ e. IsEventText bytes e)
    → found ≡ Some event → IsEventText bytes event
text_found bytes found event said is = subst (λ o. MatchOption o ((e : Event) → IsEventText bytes e → ⊥) (λ e. IsEventText bytes e)) is said

pub text_is_none : (bytes : List ℕ) (found : Option Event) → ((e : Event) → IsEventText bytes e → found ≡ Some e) → found ≡ None → IsNumberedText bytes → ⊥
text_is_none bytes found only none numbered = let other : found ≡ Some numbered.0 = only numbered.0 numbered.1 in absurd cc
