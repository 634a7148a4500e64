-- An event that has no number yet.
use Rattle.std.specs.Prelude.{◌≡◌, ℕ, List, [], ◌∷◌, ◌++◌, None, drop, codes}
use Rattle.std.specs.Prelude.{refl}
use Rattle.std.specs.Coded.{Coded, code_by, coded×, coded_ℕ}
use Rattle.json_text.specs.Tree.{Tree, members_of}
use Rattle.json_text.specs.Compact.{compact_text, more_members_text}
use Rattle.event_shape.specs.Event.{Event, text_code, event_code, event_members, event_tree, IsEventAt}

-- An event that has no number yet, the name of its bus and the moment of its time. The number 0 represents the open number.
-- Shown by: event_tests test_event_shape.rt: an_event_gets_its_number_last.
pub record Unnumbered : Type 0 where
  pub bus : List ℕ
  pub moment : ℕ
  pub event : Event

-- for proofs: unequal values have unequal codes
abbrev pub unnumbered_code : Coded Unnumbered
unnumbered_code = code_by (List ℕ × (ℕ × Event)) (coded× text_code (coded× coded_ℕ event_code)) (λ u. (u.bus, (u.moment, u.event)))
    (λ (b, (m, e)). record { bus = b; moment = m; event = e }) (λ _. refl)

-- The same event with this number, so with this number's id.
-- Shown by: event_tests test_event_shape.rt: an_event_gets_its_number_last.
abbrev pub with_number : ℕ → Event → Event
with_number number e = record e { number = number }

-- for private clauses: an event whose time is the text of this moment and whose number is open, and its tree and text
pub record IsOpenAt (moment : ℕ) (e : Event) (t : Tree) (bytes : List ℕ) : Type 0 where
  pub event : IsEventAt moment e
  pub number : e.number ≡ 0
  pub tree : t ≡ event_tree e None
  pub text : bytes ≡ compact_text (event_tree e None)

-- for private clauses: the first bytes of the text of an event with number 0, its id included
abbrev pub zero_front : List ℕ
zero_front = codes "{\"version\":\"0\",\"id\":\"00000000-0000-8000-8000-000000000000"

-- for private clauses: the text after the id, which does not depend on the number
abbrev pub text_after_id : Event → List ℕ
text_after_id e = 34 ∷ (more_members_text (members_of (drop 2 (event_members e))) ++ 125 ∷ [])
