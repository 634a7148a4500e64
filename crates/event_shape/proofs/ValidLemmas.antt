-- The tree of an event is a JSON value: `event_value`.
use Rattle.std.proofs.Common.{◌≡◌, ◌≢◌, ℕ, suc, ◌+◌, ◌<◌, Bool, true, false, not, if◌then◌else◌, ◌&&◌, ◌==◌, nat_lt, List, [], ◌∷◌, ◌++◌}
use Rattle.std.proofs.Common.{Option, Some, None, All, map, refl, subst, arith, codes}
use Rattle.std.specs.List.{list_all}
use Rattle.std.specs.Str.{IsUtf8, bytes_eq}
use Rattle.std.specs.Int.{w128, to_be_bytes}
use Rattle.std.proofs.lemmas.Bool.{and_parts, false≢true}
use Rattle.std.proofs.lemmas.Bool.Decides.{nat_tests}
use Rattle.std.proofs.lemmas.Str.{IsUtf8-from_ascii}
use Rattle.uuid.specs.Text.{hex_digit, nibble, lower, is_hyphen_place, digit_place}
use Rattle.uuid.proofs.TextLemmas.{by_index_ascii, nibble_small}
use Rattle.json_text.specs.Tree.{Tree, text, items_of, members_of}
use Rattle.json_text.specs.Compact.{LacksKey, IsValue, AreItems, AreMembers}
use Rattle.json_text.proofs.WrittenUtf8.{small_utf8}
use Rattle.event_shape.specs.Names.{region}
use Rattle.event_shape.specs.Id.{event_id, id_base}
use Rattle.event_shape.specs.Event.{Event, IsEvent, event_members, event_tree, replay_member, IsUtf8IfGiven}
use Rattle.event_time.proofs.Utf8Lemmas.{iso_utf8}

abbrev AreValues : List (List ℕ × Tree) → Type 0
AreValues [] = Unit {0}
AreValues (m ∷ ms) = IsValue m.1 × AreValues ms

abbrev keys_small : List (List ℕ × Tree) → Bool
keys_small [] = true
keys_small (m ∷ ms) = list_all (λ b. nat_lt b 128) m.0 && keys_small ms

abbrev lacks_key : List ℕ → List (List ℕ × Tree) → Bool
lacks_key key [] = true
lacks_key key (m ∷ ms) = not (bytes_eq key m.0) && lacks_key key ms

abbrev keys_apart : List (List ℕ × Tree) → Bool
keys_apart [] = true
keys_apart (m ∷ ms) = lacks_key m.0 ms && keys_apart ms

bytes_same : (xs : List ℕ) → bytes_eq xs xs ≡ true
bytes_same [] = refl
bytes_same (x ∷ xs) = let here : (x == x) ≡ true = grind (arith, nat_tests) in rw (here, bytes_same xs) refl

not_same : (key k : List ℕ) → not (bytes_eq key k) ≡ true → key ≢ k
not_same key k h e = let same : bytes_eq key k ≡ true = subst (λ x. bytes_eq key x ≡ true) e (bytes_same key) in
    let no = rw same at h in false≢true no

lacks : (key : List ℕ) (ms : List (List ℕ × Tree)) → lacks_key key ms ≡ true → LacksKey key (members_of ms)
lacks key [] h = tt
lacks key (m ∷ ms) h = let p = and_parts (not (bytes_eq key m.0)) (lacks_key key ms) h in (not_same key m.0 p.0, lacks key ms p.1)

members_valid : (ms : List (List ℕ × Tree)) → keys_small ms ≡ true → keys_apart ms ≡ true → AreValues ms → AreMembers (members_of ms)
members_valid [] small apart v = tt
members_valid (m ∷ ms) small apart v =
    let s = and_parts (list_all (λ b. nat_lt b 128) m.0) (keys_small ms) small in
    let a = and_parts (lacks_key m.0 ms) (keys_apart ms) apart in
    (small_utf8 m.0 s.0, lacks m.0 ms a.0, v.0, members_valid ms s.1 a.1 v.1)

texts_valid : (ts : List (List ℕ)) → All IsUtf8 ts → AreItems (items_of (map text ts))
texts_valid [] h = tt
texts_valid (t ∷ ts) h = (h 0 t (omega arith), texts_valid ts (λ k d lt. h (suc k) d (omega arith)))

hex_small : (d : ℕ) → d < 16 → hex_digit lower d < 128
hex_small d h = grind (arith, nat_tests)

by_test : (b : Bool) (x : ℕ) → x < 128 → (if b then 45 else x) < 128
by_test true x h = omega arith
by_test false x h = h

id_utf8 : (n : ℕ) → IsUtf8 (event_id n)
id_utf8 n =
    let xs = to_be_bytes w128 (id_base + n) in
    IsUtf8-from_ascii (event_id n) (by_index_ascii 36 (λ k. if is_hyphen_place k then 45 else hex_digit lower (nibble xs (digit_place k)))
    (λ k below.
    let digit = nibble xs (digit_place k) in
    by_test (is_hyphen_place k) (hex_digit lower digit) (hex_small digit (nibble_small xs (digit_place k)))))

values : (e : Event) → IsEvent e → AreValues (event_members e)
values e (m, at) = (
  small_utf8 (codes "0") refl,
  (
    id_utf8 e.number,
    (
      at.content.detail_type_utf8,
      (
        at.content.source_utf8,
        (
          at.account,
          (
            iso_utf8 m e.time at.time,
            (small_utf8 region refl, (texts_valid e.resources at.content.resources_utf8, (at.content.detail_value, tt))),
          ),
        ),
      ),
    ),
  ),
)

and_value : (key : List ℕ) (t : Tree) (ms : List (List ℕ × Tree)) → IsValue t → AreValues ms → AreValues (ms ++ (key, t) ∷ [])
and_value key t [] v vs = (v, tt)
and_value key t (m ∷ ms) v vs = (vs.0, and_value key t ms v vs.1)

pub event_value : (e : Event) (replay : Option (List ℕ)) → IsEvent e → IsUtf8IfGiven replay → IsValue (event_tree e replay)
event_value e None is given = members_valid (event_members e) refl refl (values e is)
event_value e (Some name) is given =
    members_valid (event_members e ++ replay_member (Some name)) refl refl (and_value (codes "replay-name") (text name) (event_members e) given (values e is))
