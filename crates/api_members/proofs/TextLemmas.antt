-- The text of a sound member: other files cite `valid_text`, `pattern_text` and `event_text`.
-- A text is one event (`one_event`), which is a value (`event_is_value`).
use Rattle.std.proofs.Common.{◌≡◌, ℕ, List, [], Option, Some, None, sym, ap, ◌∙◌, subst}
use Rattle.std.specs.Prelude.{unwrap_or, option_and_then}
use Rattle.json_text.specs.Tree.{Tree, text, Members}
use Rattle.json_text.specs.Node.{value_of}
use Rattle.json_text.specs.Compact.{IsValue}
use Rattle.json_text.specs.Access.{text_in}
use Rattle.json_text.proofs.OneValue.{one_value}
use Rattle.json_text.proofs.ValueLemmas.{text_is_value}
use Rattle.api_replies.specs.declared.member.Member.{Member}
use Rattle.api_members.specs.declared.asked.Syntax.{Syntax}
use Rattle.api_members.specs.declared.asked.Syntax.TheVariants as syntax
use Rattle.api_members.specs.declared.asked.Asked.TheVariants.{Required}
use Rattle.api_members.specs.Given.{given, text_of}
use Rattle.api_members.specs.Event.{IsEventGiven, GivesEvent}
use Rattle.api_members.specs.Value.{IsPattern, IsValid}
use Rattle.json_text.specs.Access.{IsTextThat}
use Rattle.json_text.specs.Checks.{else_fault}
use Rattle.api_replies.specs.declared.cause.Cause.TheVariants as cause
use Rattle.api_members.specs.Refusal.{value_check, IsSoundMember}

text_that : (P : List ℕ → Type 0) (t : Tree) → IsTextThat P t → P (unwrap_or (text_in t) [])
text_that P (text t) is = is
text_that P _ is = absurd is

pub valid_text : (P : List ℕ → Type 0) (s : Syntax) (m : Member) (v : Option Tree) → ((t : Tree) → IsValid s t → IsTextThat P t)
    → (value_check (else_fault ⊥ (cause.Required m)) s m v).holds → P (unwrap_or (option_and_then text_in v) [])
valid_text P s m None is valid = absurd valid
valid_text P s m (Some t) is valid = text_that P t (is t valid)

pub pattern_text : (m : Member) (ms : Members) → IsSoundMember (Required m syntax.Pattern) ms → IsPattern (text_of m ms)
pattern_text m ms sound = valid_text IsPattern syntax.Pattern m (given m ms) (λ t is. is) sound

pub event_text : (m : Member) (ms : Members) → IsSoundMember (Required m syntax.Event) ms → GivesEvent (text_of m ms)
event_text m ms sound = valid_text GivesEvent syntax.Event m (given m ms) (λ t is. is) sound

pub one_event : (t : List ℕ) (a b : Tree) → IsEventGiven t a → IsEventGiven t b → a ≡ b
one_event t a b p q = sym p.2 ∙ ap value_of (one_value 100 100 t p.0 q.0 p.1 q.1) ∙ q.2

pub event_is_value : (t : List ℕ) (event : Tree) → IsEventGiven t event → IsValue event
event_is_value t event is = subst IsValue is.2 (text_is_value 100 t is.0 is.1)
