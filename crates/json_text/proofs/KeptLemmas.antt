-- The members of an object while it is read: `slot_from-push`, `with_value-set`, `HasHashes-push` and the others. What the reader keeps
-- as it goes on: `put_in_list`, `put_in_object`; a key and its place: `key_waits`, `key_repeats`.
use Rattle.std.proofs.Common.{◌≡◌, ◌<◌, ℕ, zero, suc, ◌+◌, List, [], ◌∷◌, ◌++◌, length, Bool, true, false, Some, None, refl, sym, ap, ◌∙◌, arith, cond}
use Rattle.std.proofs.Common.{if◌then◌else◌, get_or, drop, inl, inr, ◌≢◌, ◌*◌, ◌%◌, ◌^◌, String, bit_or, map, reverse, Option, subst, ◌||◌}
use Rattle.std.proofs.{lemmas.List.at_drop_more, lemmas.List.reverse-append, lemmas.List.map-append, lemmas.Bool.cases_eq, lemmas.Bool.cases_Bool}
use Rattle.std.proofs.{lemmas.Nat.Bits.bit_at_set_same, lemmas.Nat.Bits.bit_at_set_other, lemmas.Slice.Eq.bytes_eq-Decides, Math.ListN.set}
use Rattle.std.specs.{Prelude.unwrap_or, Prelude.IsOk, Prelude.is_ok, Prelude.Result, Prelude.Ok, Prelude.Err, Int.bit_at, Int.w128, BTreeMap.BTreeMap}
use Rattle.std.specs.{Global.Global, List.list_any, Str.bytes_eq}
use Rattle.json_text.specs.Node.{Node, value_of, values_of, members_after, with_member, first_of, first_repeat, first_repeat_in, first_repeat_after}
use Rattle.json_text.specs.Reading.{Member, Waiting, in_list, in_object, nodes_of, fields_of, after_item, after_member, put}
use Rattle.json_text.specs.{Objects.HasHashes, Objects.IsIndex, Objects.hash_of, Objects.slot_from, Objects.with_value, Objects.Reserves, Tree.null, Tree.Tree}
use Rattle.json_text.specs.{declared.state.Kept.TheVariants.List as kept_list, declared.state.Kept.TheVariants.Object as kept_object, declared.value.Json.Json}
use Rattle.json_text.specs.{Kept.keys_after, Kept.repeat_at, Kept.repeat_of, Kept.Keeps, Kept.KeepsAll, Kept.HoldsMembers, declared.state.Kept.Kept}
use Rattle.json_text.specs.{View.tree_of, View.pairs_of, View.trees_of, declared.value.Json.TheVariants.Null}
use Rattle.json_text.proofs.ViewLemmas.{tree_of_null}

-- a member gets a value: each key is where it was
slot_from-set : (at : ℕ) (key : List ℕ) (v : Json) (slot : ℕ) (ms : List (List ℕ × Json)) (d : List ℕ × Json) → slot < length ms → d ≡ get_or ms slot d
    → slot_from at key (set ms slot (d.0, v)) ≡ slot_from at key ms
slot_from-set at key v slot [] d h e = absurd (omega (arith, h))
slot_from-set at key v zero (m ∷ ms) d h e = ap (λ p. if bytes_eq key p.0 then Some at else slot_from (at + 1) key ms) e
slot_from-set at key v (suc slot) (m ∷ ms) d h e =
    ap (λ o. if bytes_eq key m.0 then Some at else o) (slot_from-set (at + 1) key v slot ms d (omega (arith, h)) e)

pub with_value-set : (v : Json) (slot : ℕ) (ms : List (List ℕ × Json)) (d : List ℕ × Json) → slot < length ms → d ≡ get_or ms slot d
    → pairs_of (set ms slot (d.0, v)) ≡ with_value slot (tree_of v) (pairs_of ms)
with_value-set v slot [] d h e = absurd (omega (arith, h))
with_value-set v zero (m ∷ ms) d h e = ap (λ p. (p.0, tree_of v) ∷ pairs_of ms) e
with_value-set v (suc slot) (m ∷ ms) d h e = ap (λ rest. (m.0, tree_of m.1) ∷ rest) (with_value-set v slot ms d (omega (arith, h)) e)

pub slot_from-pairs : (at : ℕ) (key : List ℕ) (ms : List (List ℕ × Json)) → slot_from at key (pairs_of ms) ≡ slot_from at key ms
slot_from-pairs at key [] = refl
slot_from-pairs at key (m ∷ ms) = ap (λ o. if bytes_eq key m.0 then Some at else o) (slot_from-pairs (at + 1) key ms)

pub slot_from-below : {V : Type 0} (at slot : ℕ) (key : List ℕ) (ms : List (List ℕ × V)) → slot_from at key ms ≡ Some slot → slot < at + length ms
slot_from-below at slot key [] h = cc
slot_from-below at slot key (m ∷ ms) h =
    elim (bytes_eq key m.0) as (λ b. cond b (Some at) (slot_from (at + 1) key ms) ≡ Some slot → slot < at + suc (length ms)) [
      | true ↦ λ g. let e : at ≡ slot = ap (λ o. unwrap_or o 0) g in omega (arith, e)
      | false ↦ λ g. omega (arith, slot_from-below (at + 1) slot key ms g)
    ] h

bytes_eq-comm : (a b : List ℕ) → bytes_eq a b ≡ bytes_eq b a
bytes_eq-comm a b = elim (cases_Bool (bytes_eq a b)) [
  | inl same ↦ same ∙ sym ((bytes_eq-Decides b a).1 (sym ((bytes_eq-Decides a b).0 same)))
  | inr other ↦ other ∙ sym (elim (cases_Bool (bytes_eq b a)) [
    | inl back ↦ absurd (cc (((bytes_eq-Decides a b).1 (sym ((bytes_eq-Decides b a).0 back))), other))
    | inr none ↦ none
  ])
]

not_first : {V : Type 0} (at : ℕ) (k : List ℕ) (m : List ℕ × V) (ms : List (List ℕ × V)) → slot_from at k (m ∷ ms) ≡ None
    → (bytes_eq k m.0 ≡ false) × (slot_from (at + 1) k ms ≡ None)
not_first at k m ms = elim (bytes_eq k m.0) as (λ b. cond b (Some at) (slot_from (at + 1) k ms) ≡ None
    → (b ≡ false) × (slot_from (at + 1) k ms ≡ None)) [ true ↦ λ h. cc | false ↦ λ h. (refl, h) ]

-- a member with a new key at the end
pub slot_from-push : {V : Type 0} (at : ℕ) (key k : List ℕ) (v : V) (ms : List (List ℕ × V)) → slot_from at k ms ≡ None
    → slot_from at key (ms ++ (k, v) ∷ []) ≡ (if bytes_eq k key then Some (at + length ms) else slot_from at key ms)
slot_from-push at key k v [] h = ap (λ b. if b then Some at else None) (bytes_eq-comm key k) ∙ ap (λ n. if bytes_eq k key then Some n else None) (omega arith)
slot_from-push at key k v (m ∷ ms) h = let first = not_first at k m ms h in
    ap (λ o. if bytes_eq key m.0 then Some at else o) (slot_from-push (at + 1) key k v ms first.1) ∙ elim (cases_Bool (bytes_eq k key)) [
      | inl same ↦ ap (λ b. cond b (Some at) (cond (bytes_eq k key) (Some (at + 1 + length ms)) (slot_from (at + 1) key ms)))
          (ap (λ x. bytes_eq x m.0) (sym ((bytes_eq-Decides k key).0 same)) ∙ first.0)
          ∙ ap (λ b. cond b (Some (at + 1 + length ms)) (slot_from (at + 1) key ms)) same ∙ ap (λ n. Some n) (omega arith)
          ∙ sym (ap (λ b. cond b (Some (at + suc (length ms))) (cond (bytes_eq key m.0) (Some at) (slot_from (at + 1) key ms))) same)
      | inr other ↦ ap (λ b. cond (bytes_eq key m.0) (Some at) (cond b (Some (at + 1 + length ms)) (slot_from (at + 1) key ms))) other
          ∙ sym (ap (λ b. cond b (Some (at + suc (length ms))) (cond (bytes_eq key m.0) (Some at) (slot_from (at + 1) key ms))) other)
    ]

-- the members from a place on begin with the member there
pub slot_from-drop : (at : ℕ) (key : List ℕ) (n : ℕ) (ms : List (List ℕ × Json)) (d : List ℕ × Json) → n < length ms → d ≡ get_or ms n d
    → (if bytes_eq d.0 key then Some at else slot_from (at + 1) key (drop (n + 1) ms)) ≡ slot_from at key (drop n ms)
slot_from-drop at key n ms d h e = ap (λ b. cond b (Some at) (slot_from (at + 1) key (drop (n + 1) ms))) (bytes_eq-comm d.0 key ∙ ap (λ p. bytes_eq key p.0) e)
    ∙ sym (at_drop_more (slot_from at key) ms n d h)

pub pairs_of-push : (k : List ℕ) (ms : List (List ℕ × Json)) → pairs_of (ms ++ (k, Null) ∷ []) ≡ pairs_of ms ++ (k, null) ∷ []
pairs_of-push k [] = ap (λ t. (k, t) ∷ []) tree_of_null
pairs_of-push k (m ∷ ms) = ap (λ rest. (m.0, tree_of m.1) ∷ rest) (pairs_of-push k ms)

-- a number with one bit more
abbrev with_bit : ℕ → ℕ → ℕ
with_bit n k = bit_or n (1 * 2 ^ k % 2 ^ 128)

-- the key at the end has its hash's bit
pub HasHashes-push : {V : Type 0} (hashes hash : ℕ) (k : List ℕ) (v : V) (ms : List (List ℕ × V)) → hash ≡ hash_of k → hash < 128 → slot_from 0 k ms ≡ None
    → HasHashes hashes ms → HasHashes (with_bit hashes hash) (ms ++ (k, v) ∷ [])
HasHashes-push hashes hash k v ms is small new has q unset = elim (cases_eq (hash_of q) hash) [
  | inl same ↦ absurd (omega (arith, sym (bit_at_set_same w128 hashes hash small) ∙ ap (λ h. bit_at (with_bit hashes hash) h) (sym same) ∙ unset))
  | inr other ↦ slot_from-push 0 q k v ms new ∙ ap (λ b. cond b (Some (0 + length ms)) (slot_from 0 q ms)) (apart k q (λ e. other (e ∙ sym is)))
      ∙ has q (sym (bit_at_set_other w128 hashes hash small (hash_of q) other) ∙ unset)
]
  where
    apart : (a b : List ℕ) → hash_of b ≢ hash_of a → bytes_eq a b ≡ false
    apart a b other = elim (cases_Bool (bytes_eq a b)) [
      | inl same ↦ absurd (other (ap hash_of (sym ((bytes_eq-Decides a b).0 same))))
      | inr differ ↦ differ
    ]

-- a member's value changes neither the hashes nor the map
pub HasHashes-set : (hashes : ℕ) (v : Json) (slot : ℕ) (ms : List (List ℕ × Json)) (d : List ℕ × Json) → slot < length ms → d ≡ get_or ms slot d
    → HasHashes hashes ms → HasHashes hashes (set ms slot (d.0, v))
HasHashes-set hashes v slot ms d h e has q unset = slot_from-set 0 q v slot ms d h e ∙ has q unset

pub IsIndex-set : (slots : BTreeMap (String Global) ℕ) (v : Json) (slot : ℕ) (ms : List (List ℕ × Json)) (d : List ℕ × Json) → slot < length ms
    → d ≡ get_or ms slot d → IsIndex slots ms → IsIndex slots (set ms slot (d.0, v))
IsIndex-set slots v slot ms d h e index made q = index made q ∙ sym (slot_from-set 0 q v slot ms d h e)

-- what a list is after a push that has its room
pub pushed : {A T E : Type 0} (r : Result T E) (more same new : List A) → IsOk r → new ≡ (if is_ok r then more else same) → new ≡ more
pushed (Ok x) more same new h e = e
pushed (Err x) more same new h e = cc

pub first_of-assoc : (a b c : Option ℕ) → first_of (first_of a b) c ≡ first_of a (first_of b c)
first_of-assoc None b c = refl
first_of-assoc (Some at) b c = refl

pub first_of-none : (a : Option ℕ) → first_of a None ≡ a
first_of-none None = refl
first_of-none (Some at) = refl

-- one node more
first_repeat_in-more : (ns : List Node) (n : Node) → first_repeat_in (nodes_of (ns ++ n ∷ [])) ≡ first_of (first_repeat_in (nodes_of ns)) (first_repeat n)
first_repeat_in-more [] n = first_of-none (first_repeat n)
first_repeat_in-more (m ∷ ns) n = ap (first_of (first_repeat m)) (first_repeat_in-more ns n)
    ∙ sym (first_of-assoc (first_repeat m) (first_repeat_in (nodes_of ns)) (first_repeat n))

pub values_of-nodes : (ns : List Node) → values_of (nodes_of ns) ≡ map value_of ns
values_of-nodes [] = refl
values_of-nodes (n ∷ ns) = ap (λ ts. value_of n ∷ ts) (values_of-nodes ns)

-- one member more
members_after-more : (acc : List (List ℕ × Tree)) (ms : List Member) (m : Member)
    → members_after acc (fields_of (ms ++ m ∷ [])) ≡ with_member m.key (value_of m.of) (members_after acc (fields_of ms))
members_after-more acc [] m = refl
members_after-more acc (o ∷ ms) m = members_after-more (with_member o.key (value_of o.of) acc) ms m

first_repeat_after-more : (keys : List (List ℕ)) (ms : List Member) (m : Member)
    → first_repeat_after keys (fields_of (ms ++ m ∷ [])) ≡ first_of (first_repeat_after keys (fields_of ms))
    (first_of (repeat_at (keys_after keys ms) m.place m.key) (first_repeat m.of))
first_repeat_after-more keys [] m = ap (first_of (repeat_at keys m.place m.key)) (first_of-none (first_repeat m.of))
first_repeat_after-more keys (o ∷ ms) m = let key = repeat_at keys o.place o.key in let inner = first_repeat o.of in
    let rest = first_repeat_after (o.key ∷ keys) (fields_of ms) in
    let last = first_of (repeat_at (keys_after (o.key ∷ keys) ms) m.place m.key) (first_repeat m.of) in
    ap (λ r. first_of key (first_of inner r)) (first_repeat_after-more (o.key ∷ keys) ms m) ∙ ap (first_of key) (sym (first_of-assoc inner rest last))
    ∙ sym (first_of-assoc key (first_of inner rest) last)

-- what stays at the end of a reversed list
keeps_last : (ks : List Kept) (k : Kept) (outer : List Waiting) → KeepsAll (reverse (ks ++ k ∷ [])) outer
    → (w : Waiting) × (rest : List Waiting) × (outer ≡ w ∷ rest) × Keeps k w × KeepsAll (reverse ks) rest
keeps_last ks k [] h = absurd (let g : KeepsAll (k ∷ reverse ks) [] = rw reverse-append at h in g)
keeps_last ks k (w ∷ rest) h = let g : KeepsAll (k ∷ reverse ks) (w ∷ rest) = rw reverse-append at h in (w, rest, refl, g.0, g.1)

-- a list or an object more waits
pub keeps_more : (ks : List Kept) (k : Kept) (outer : List Waiting) (w : Waiting) → KeepsAll (reverse ks) outer → Keeps k w
    → KeepsAll (reverse (ks ++ k ∷ [])) (w ∷ outer)
keeps_more ks k outer w h here = rw reverse-append (here, h)

-- whether a member has the key
abbrev has : {V : Type 0} → List ℕ → List (List ℕ × V) → Bool
has key ms = list_any (λ m. bytes_eq key m.0) ms

twice : (a b c : Bool) → a ≡ b → (a || (b || c)) ≡ (b || c)
twice true true c h = refl
twice true false c h = cc
twice false true c h = cc
twice false false c h = refl

swap_or : (a b c : Bool) → (a || (b || c)) ≡ (b || (a || c))
swap_or true true c = refl
swap_or true false c = refl
swap_or false true c = refl
swap_or false false c = refl

has-with_member : (key k : List ℕ) (t : Tree) (ms : List (List ℕ × Tree)) → has key (with_member k t ms) ≡ (bytes_eq key k || has key ms)
has-with_member key k t [] = refl
has-with_member key k t (m ∷ ms) = elim (cases_Bool (bytes_eq k m.0)) [
  | inl same ↦ ap (λ b. has key (cond b ((m.0, t) ∷ ms) (m ∷ with_member k t ms))) same
      ∙ sym (twice (bytes_eq key k) (bytes_eq key m.0) (has key ms) (ap (bytes_eq key) ((bytes_eq-Decides k m.0).0 same)))
  | inr other ↦ ap (λ b. has key (cond b ((m.0, t) ∷ ms) (m ∷ with_member k t ms))) other
      ∙ ap (λ b. bytes_eq key m.0 || b) (has-with_member key k t ms) ∙ swap_or (bytes_eq key m.0) (bytes_eq key k) (has key ms)
]

has-members_after : (key : List ℕ) (keys : List (List ℕ)) (acc : List (List ℕ × Tree)) (ms : List Member)
    → has key acc ≡ list_any (bytes_eq key) keys → has key (members_after acc (fields_of ms)) ≡ list_any (bytes_eq key) (keys_after keys ms)
has-members_after key keys acc [] h = h
has-members_after key keys acc (m ∷ ms) h = has-members_after key (m.key ∷ keys) (with_member m.key (value_of m.of) acc) ms
    (has-with_member key m.key (value_of m.of) acc ∙ ap (λ b. bytes_eq key m.key || b) h)

abbrev found : Option ℕ → Bool
found None = false
found (Some at) = true

has-found : {V : Type 0} (at : ℕ) (key : List ℕ) (ms : List (List ℕ × V)) → has key ms ≡ found (slot_from at key ms)
has-found at key [] = refl
has-found at key (m ∷ ms) = elim (bytes_eq key m.0) as (λ b. (b || has key ms) ≡ found (cond b (Some at) (slot_from (at + 1) key ms)))
    [ true ↦ refl | false ↦ has-found (at + 1) key ms ]

-- the member with the key gets its value at its place
with_value-slot : (at slot : ℕ) (key : List ℕ) (t : Tree) (ms : List (List ℕ × Tree)) → slot_from at key ms ≡ Some slot
    → (n : ℕ) × (slot ≡ at + n) × (with_value n t ms ≡ with_member key t ms)
with_value-slot at slot key t [] h = cc
with_value-slot at slot key t (m ∷ ms) h = elim (bytes_eq key m.0) as (λ b. cond b (Some at) (slot_from (at + 1) key ms) ≡ Some slot
    → (n : ℕ) × (slot ≡ at + n) × (with_value n t (m ∷ ms) ≡ cond b ((m.0, t) ∷ ms) (m ∷ with_member key t ms))) [
      | true ↦ λ g. (0, sym (ap (λ o. unwrap_or o 0) g) ∙ omega arith, refl)
      | false ↦ λ g. let r = with_value-slot (at + 1) slot key t ms g in (suc r.0, omega (arith, r.1), ap (λ rest. m ∷ rest) r.2)
    ] h

-- a new member gets its value at the end
with_value-end : (at : ℕ) (key : List ℕ) (t u : Tree) (ms : List (List ℕ × Tree)) → slot_from at key ms ≡ None
    → with_value (length ms) t (ms ++ (key, u) ∷ []) ≡ with_member key t ms
with_value-end at key t u [] h = refl
with_value-end at key t u (m ∷ ms) h = elim (bytes_eq key m.0) as (λ b. cond b (Some at) (slot_from (at + 1) key ms) ≡ None
    → (m ∷ with_value (length ms) t (ms ++ (key, u) ∷ [])) ≡ cond b ((m.0, t) ∷ ms) (m ∷ with_member key t ms)) [
      | true ↦ λ g. cc
      | false ↦ λ g. ap (λ rest. m ∷ rest) (with_value-end (at + 1) key t u ms g)
    ] h

-- A key's place was found or made: what the member's object becomes, and whether the key came twice.
pub key_waits : (old new : List (List ℕ × Tree)) (key : List ℕ) (slot : ℕ) (there : Bool) (ms : List Member) → Reserves old new key slot there
    → old ≡ members_after [] (fields_of ms) → ((t : Tree) → with_value slot t new ≡ with_member key t (members_after [] (fields_of ms)))
key_waits old new key slot true ms h is t = let r = with_value-slot 0 slot key t old h.1 in
    ap (with_value slot t) h.0 ∙ ap (λ n. with_value n t old) (let e : slot ≡ r.0 = omega (arith, r.1) in e) ∙ r.2 ∙ ap (with_member key t) is
key_waits old new key slot false ms h is t =
    ap (with_value slot t) h.0 ∙ ap (λ n. with_value n t (old ++ (key, null) ∷ [])) h.2 ∙ with_value-end 0 key t null old h.1 ∙ ap (with_member key t) is

pub key_repeats : (old new : List (List ℕ × Tree)) (key : List ℕ) (slot place : ℕ) (there : Bool) (ms : List Member) → Reserves old new key slot there
    → old ≡ members_after [] (fields_of ms) → repeat_at (keys_after [] ms) place key ≡ (if there then Some place else None)
key_repeats old new key slot place true ms h is =
    ap (λ b. cond b (Some place) None) (sym (has-members_after key [] [] ms refl) ∙ ap (has key) (sym is) ∙ has-found 0 key old ∙ ap found h.1)
key_repeats old new key slot place false ms h is =
    ap (λ b. cond b (Some place) None) (sym (has-members_after key [] [] ms refl) ∙ ap (has key) (sym is) ∙ has-found 0 key old ∙ ap found h.1)

-- a whole value for the innermost of what waits, which is a list
list_takes : (v : _) (w : Waiting) (rest : List Waiting) (pushed : List Json) (json : Json) (n : Node) (repeat : Option ℕ)
    → Keeps (kept_list v) w → pushed ≡ v.items ++ json ∷ [] → tree_of json ≡ value_of n → repeat ≡ first_of (repeat_of (w ∷ rest)) (first_repeat n)
    → (x : List Node) × (put n (w ∷ rest) ≡ after_item x rest) × (repeat ≡ first_of (repeat_of rest) (first_repeat_in (nodes_of x)))
    × (trees_of pushed ≡ map value_of x)
list_takes v (in_list ns) rest pushed json n repeat k more is r =
    let again = r ∙ first_of-assoc (repeat_of rest) (first_repeat_in (nodes_of ns)) (first_repeat n)
    ∙ ap (first_of (repeat_of rest)) (sym (first_repeat_in-more ns n)) in
    let trees = ap trees_of more ∙ map-append tree_of v.items (json ∷ []) ∙ ap (λ ts. ts ++ tree_of json ∷ []) k ∙ ap (λ t. map value_of ns ++ t ∷ []) is
    ∙ sym (map-append value_of ns (n ∷ [])) in (ns ++ n ∷ [], refl, again, trees)
list_takes v (in_object ms place key) rest pushed json n repeat k more is r = absurd k

pub put_in_list : (ks all : List Kept) (v : _) (pushed : List Json) (json : Json) (n : Node) (outer : List Waiting) (repeat : Option ℕ)
    → all ≡ ks ++ kept_list v ∷ [] → pushed ≡ v.items ++ json ∷ [] → tree_of json ≡ value_of n → KeepsAll (reverse all) outer
    → repeat ≡ first_of (repeat_of outer) (first_repeat n) → (x : List Node) × (x' : List Waiting) × (put n outer ≡ after_item x x') × KeepsAll (reverse ks) x'
    × (repeat ≡ first_of (repeat_of x') (first_repeat_in (nodes_of x))) × (trees_of pushed ≡ map value_of x)
put_in_list ks all v pushed json n outer repeat last more is kept r =
    let cut = keeps_last ks (kept_list v) outer (subst (λ xs. KeepsAll (reverse xs) outer) last kept) in
    let done = list_takes v cut.0 cut.1 pushed json n repeat cut.3 more is (r ∙ ap (λ o. first_of (repeat_of o) (first_repeat n)) cut.2) in
    (done.0, cut.1, ap (put n) cut.2 ∙ done.1, cut.4, done.2, done.3)

-- the same for an object
object_takes : (o : _) (w : Waiting) (rest : List Waiting) (set : List (List ℕ × Json)) (json : Json) (n : Node) (repeat : Option ℕ)
    → Keeps (kept_object o) w → pairs_of set ≡ with_value o.slot (tree_of json) (pairs_of o.object.value.members.items) → tree_of json ≡ value_of n
    → repeat ≡ first_of (repeat_of (w ∷ rest)) (first_repeat n)
    → (x : List Member) × (put n (w ∷ rest) ≡ after_member x rest) × (repeat ≡ first_of (repeat_of rest) (first_repeat_after [] (fields_of x)))
    × HoldsMembers set x
object_takes o (in_list ns) rest set json n repeat k more is r = absurd k
object_takes o (in_object ms place key) rest set json n repeat k more is r = let m : Member = record { place = place; key = key; of = n } in
    let after = first_repeat_after [] (fields_of ms) in let twice = repeat_at (keys_after [] ms) place key in
    let again = r ∙ first_of-assoc (repeat_of rest) (first_of after twice) (first_repeat n)
    ∙ ap (first_of (repeat_of rest)) (first_of-assoc after twice (first_repeat n) ∙ sym (first_repeat_after-more [] ms m)) in
    let trees = more ∙ k (tree_of json) ∙ ap (λ t. with_member key t (members_after [] (fields_of ms))) is ∙ sym (members_after-more [] ms m) in
    (ms ++ m ∷ [], refl, again, trees)

pub put_in_object : (ks all : List Kept) (o : _) (set : List (List ℕ × Json)) (json : Json) (n : Node) (outer : List Waiting) (repeat : Option ℕ)
    → all ≡ ks ++ kept_object o ∷ [] → pairs_of set ≡ with_value o.slot (tree_of json) (pairs_of o.object.value.members.items) → tree_of json ≡ value_of n
    → KeepsAll (reverse all) outer → repeat ≡ first_of (repeat_of outer) (first_repeat n)
    → (x : List Member) × (x' : List Waiting) × (put n outer ≡ after_member x x') × KeepsAll (reverse ks) x'
    × (repeat ≡ first_of (repeat_of x') (first_repeat_after [] (fields_of x))) × HoldsMembers set x
put_in_object ks all o set json n outer repeat last more is kept r =
    let cut = keeps_last ks (kept_object o) outer (subst (λ xs. KeepsAll (reverse xs) outer) last kept) in
    let done = object_takes o cut.0 cut.1 set json n repeat cut.3 more is (r ∙ ap (λ p. first_of (repeat_of p) (first_repeat n)) cut.2) in
    (done.0, cut.1, ap (put n) cut.2 ∙ done.1, cut.4, done.2, done.3)
