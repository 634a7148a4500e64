-- The text of an event before and after its id: `text_opens` (number 0), `text_numbered` (any number). The event with another
-- number, and the event at its moment: `event_numbered`, `event_at_moment`, `opens_at`. The event's members with another id: `members_are`,
-- `id_put`.
use Rattle.std.proofs.Common.{◌≡◌, ◌≢◌, ℕ, zero, suc, ◌+◌, ◌<◌, ◌≤◌, ◌^◌, Bool, true, false, if◌then◌else◌, None, List, [], ◌∷◌, ◌++◌, drop, flat_map}
use Rattle.std.proofs.Common.{sym, ap, ◌∙◌, refl, arith, codes, append_assoc, length, get_or}
use Rattle.std.proofs.lemmas.Bool.Decides.{nat_tests}
use Rattle.std.proofs.lemmas.List.{append-nil, length-map}
use Rattle.std.proofs.lemmas.Grind.{flat_map-append}
use Rattle.std.specs.Int.{w128, to_be_bytes}
use Rattle.uuid.specs.Text.{by_index, hex_digit, nibble, lower, is_hyphen_place, digit_place}
use Rattle.uuid.proofs.TextLemmas.{nibble_small}
use Rattle.json_text.specs.Moment.{IsMoment}
use Rattle.std.proofs.Math.ListN.{set}
use Rattle.json_text.specs.Tree.{Tree, text, object, members_of}
use Rattle.json_text.specs.View.{tree_of, pairs_of}
use Rattle.json_text.specs.Objects.{with_value}
use Rattle.json_text.specs.declared.value.Json.{Json}
use Rattle.json_text.specs.declared.value.Json.TheVariants.{Str, Obj}
use Rattle.json_text.proofs.KeptLemmas.{with_value-set}
use Rattle.json_text.proofs.ViewLemmas.{tree_of_text, tree_of_object}
use Rattle.json_text.specs.Compact.{compact_text, escape, more_members_text}
use Rattle.event_time.specs.Time.{IsIso}
use Rattle.event_shape.specs.Id.{event_id, id_base}
use Rattle.event_shape.specs.Event.{Event, event_members, event_tree, IsEventAt, IsEvent}
use Rattle.event_shape.specs.Unnumbered.{with_number, zero_front, text_after_id}
use Rattle.event_shape.proofs.PartLemmas.{members_once}

-- ---- an id is written as it is

plain : (b : ℕ) → 32 ≤ b → b ≢ 34 → b ≢ 92 → escape b ≡ b ∷ []
plain b low quote slash = grind (arith, nat_tests)

plain_digit : (d : ℕ) → d < 16 → escape (hex_digit lower d) ≡ hex_digit lower d ∷ []
plain_digit d h = plain (hex_digit lower d) (grind (arith, nat_tests)) (grind (arith, nat_tests)) (grind (arith, nat_tests))

plain_by_test : (b : Bool) (x : ℕ) → escape x ≡ x ∷ [] → escape (if b then 45 else x) ≡ (if b then 45 else x) ∷ []
plain_by_test true x h = refl
plain_by_test false x h = h

plain_by_index : (n : ℕ) (f : ℕ → ℕ) → ((k : ℕ) → escape (f k) ≡ f k ∷ []) → flat_map escape (by_index n f) ≡ by_index n f
unfolding by_index
plain_by_index zero f h = refl
plain_by_index (suc n) f h =
    flat_map-append escape (by_index n f) (f n ∷ []) ∙ ap (λ t. t ++ (escape (f n) ++ [])) (plain_by_index n f h)
    ∙ ap (λ t. by_index n f ++ t) (append-nil (escape (f n)) ∙ h n)

id_plain : (n : ℕ) → flat_map escape (event_id n) ≡ event_id n
id_plain n =
    let xs = to_be_bytes w128 (id_base + n) in
    plain_by_index 36 (λ k. if is_hyphen_place k then 45 else hex_digit lower (nibble xs (digit_place k)))
    (λ k.
    let digit = nibble xs (digit_place k) in
    plain_by_test (is_hyphen_place k) (hex_digit lower digit) (plain_digit digit (nibble_small xs (digit_place k))))

zero_id : event_id 0 ≡ codes "00000000-0000-8000-8000-000000000000"
unfolding by_index
zero_id = refl

-- ---- the text of an event, around its id

around_id : (e : Event) → compact_text (event_tree e None) ≡ codes "{\"version\":\"0\",\"id\":\"" ++ (event_id e.number ++ text_after_id e)
around_id e =
    let id = event_id e.number in
    let more = more_members_text (members_of (drop 2 (event_members e))) in
    let inner : ((flat_map escape id ++ 34 ∷ []) ++ more) ++ 125 ∷ [] ≡ id ++ 34 ∷ (more ++ 125 ∷ []) =
    append_assoc (flat_map escape id ++ 34 ∷ []) more (125 ∷ []) ∙ append_assoc (flat_map escape id) (34 ∷ []) (more ++ 125 ∷ [])
    ∙ ap (λ t. t ++ 34 ∷ (more ++ 125 ∷ [])) (id_plain e.number) in
    ap (λ t. codes "{\"version\":\"0\",\"id\":\"" ++ t) inner

pub text_opens : (e : Event) → e.number ≡ 0 → compact_text (event_tree e None) ≡ zero_front ++ text_after_id e
text_opens e zeroth = around_id e ∙ ap (λ t. codes "{\"version\":\"0\",\"id\":\"" ++ (t ++ text_after_id e)) (ap event_id zeroth ∙ zero_id)

pub text_numbered : (e : Event) (n : ℕ) (empty front opened whole : List ℕ) → empty ≡ [] → front ≡ empty ++ codes "{\"version\":\"0\",\"id\":\""
    → opened ≡ front ++ event_id n → whole ≡ opened ++ text_after_id e → whole ≡ compact_text (event_tree (with_number n e) None)
text_numbered e n empty front opened whole none first second third =
    let id = event_id n in
    let pieces : whole ≡ (codes "{\"version\":\"0\",\"id\":\"" ++ id) ++ text_after_id e = rw (third, second, first, none) refl in
    pieces ∙ append_assoc (codes "{\"version\":\"0\",\"id\":\"") id (text_after_id e) ∙ sym (around_id (with_number n e))

-- ---- the event

pub event_at_moment : (e : Event) (m : ℕ) → IsEvent e → IsMoment m → IsIso m e.time → IsEventAt m e
event_at_moment e m (other, at) fits shown = record { number = at.number; account = at.account; is_moment = fits; time = shown; content = at.content }

pub event_numbered : (e : Event) (m n : ℕ) → n < 2 ^ 64 → IsEventAt m e → IsEvent (with_number n e)
event_numbered e m n fits at =
    (m, record { number = fits; account = at.account; is_moment = at.is_moment; time = at.time; content = at.content })

-- ---- the members

pub members_are : (v : _) (tree : Json) (e : Event) → tree ≡ Obj v → tree_of tree ≡ event_tree e None → pairs_of v.items ≡ event_members e
members_are v tree e is trees =
    let same : object (members_of (pairs_of v.items)) ≡ event_tree e None = sym (tree_of_object v) ∙ sym (ap tree_of is) ∙ trees in
    let inside : members_of (pairs_of v.items) ≡ members_of (event_members e) = cc in
    members_once (pairs_of v.items) (event_members e) inside

pub two_members : (ms : List (List ℕ × Json)) (e : Event) → pairs_of ms ≡ event_members e → 1 < length ms
two_members ms e are =
    let counted : length (pairs_of ms) ≡ length (event_members e) = ap length are in
    omega (arith, counted, length-map {B = List ℕ × Tree} ms (λ m. (m.0, tree_of m.1)))

-- the second member gets the id of another number
pub id_put : (ms : List (List ℕ × Json)) (d : List ℕ × Json) (t : List ℕ) (e : Event) (n : ℕ) → pairs_of ms ≡ event_members e → 1 < length ms
    → d ≡ get_or ms 1 d → t ≡ event_id n → pairs_of (set ms 1 (d.0, Str t)) ≡ event_members (with_number n e)
id_put ms d t e n are some at is =
    with_value-set (Str t) 1 ms d some at ∙ ap (with_value 1 (tree_of (Str t))) are
    ∙ ap (λ v. with_value 1 v (event_members e)) (tree_of_text t ∙ ap text is)
