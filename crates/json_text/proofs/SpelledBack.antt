-- The compact text of a value spells it: `compact_spelled`.
use Rattle.std.proofs.Common.{◌≡◌, ◌≢◌, ℕ, suc, ◌+◌, ◌/◌, ◌%◌, ◌≤◌, ◌<◌, Bool, true, false, cond, ◌==◌, nat_lt, List, [], ◌∷◌, ◌++◌, length, flat_map, Some}
use Rattle.std.proofs.Common.{None, refl, sym, ap, ◌∙◌, subst, arith, IsUtf8, encode_utf8, append_assoc, append-nil, ⊎_elim, eqb-true}
use Rattle.std.proofs.lemmas.Bool.{and_parts, cond_both, cond-false, eqb-false, ltb-true, ltb-false, cases_lt}
use Rattle.std.proofs.{lemmas.Slice.Eq.bytes_eq-Decides, lemmas.Bool.Decides.nat_tests, lemmas.Grind.flat_map-append}
use Rattle.std.specs.{Str.bytes_eq, Str.encode_utf8_all, Str.all_scalars, Char.IsScalar, List.list_any}
use Rattle.json_text.specs.Node.{Node, null_node, truth_node, number_node, text_node, list_node, object_node, Nodes, no_nodes, node, Fields, no_fields, field}
use Rattle.json_text.specs.Node.{with_member, value_of, values_of, members_after, levels_of, levels_of_nodes, levels_of_fields, first_of, first_repeat}
use Rattle.json_text.specs.Node.{first_repeat_in, first_repeat_after}
use Rattle.json_text.specs.Compact.{lower_hex, escape, quoted, compact_text, items_text, more_items_text, members_text, more_members_text, LacksKey, IsValue}
use Rattle.json_text.specs.Compact.{AreItems, AreMembers, tree_levels, items_levels, members_levels}
use Rattle.json_text.specs.Characters.{SpellsCharacter, unescaped, escaped, unit, SpellsCharacters, none, more, SpellsString, IsHex, hex_digit_of}
use Rattle.json_text.specs.Tree.{Tree, null, truth, number, text, list, object, Items, no_items, item, Members, no_members, member, items_of, members_of}
use Rattle.json_text.specs.Grammar.{SpellsValue, SpellsItems, SpellsMoreItems, SpellsMembers, SpellsMoreMembers, IsText, Padded, SpellsField}
use Rattle.json_text.proofs.{Encoded.encode_1, Encoded.encode_2, Encoded.encode_3, Encoded.encode_4, Encoded.low_is_scalar, CharacterReads.short_character}

-- strings
digit_hex : (n : ℕ) → n < 10 → hex_digit_of (48 + n) ≡ Some n
digit_hex n h = grind (arith, nat_tests)

letter_hex : (n : ℕ) → 10 ≤ n → n < 16 → hex_digit_of (87 + n) ≡ Some n
letter_hex n l h = grind (arith, nat_tests)

hex_lower : (n : ℕ) → n < 16 → hex_digit_of (lower_hex n) ≡ Some n
hex_lower n h = cond_both (nat_lt n 10) (48 + n) (87 + n) (λ x. hex_digit_of x ≡ Some n) (λ t. digit_hex n (ltb-true n 10 t))
    (λ f. letter_hex n (ltb-false n 10 f) h)

control_hex : (c : ℕ) → c < 32 → IsHex (48 ∷ 48 ∷ lower_hex (c / 16) ∷ lower_hex (c % 16) ∷ []) c
control_hex c h = let a = hex_lower (c / 16) (omega arith) in let b = hex_lower (c % 16) (omega arith) in
    (48, 48, lower_hex (c / 16), lower_hex (c % 16), 0, 0, c / 16, c % 16, refl, refl, refl, a, b, omega arith)

two_characters : (b d c : ℕ) → c ≡ d → SpellsCharacter (92 ∷ b ∷ []) (d ∷ []) → SpellsCharacter (92 ∷ b ∷ []) (c ∷ [])
two_characters b d c e p = subst (λ x. SpellsCharacter (92 ∷ b ∷ []) (x ∷ [])) (sym e) p

-- what a byte below 128 is written as spells it
escape_spelled : (c : ℕ) → c < 128 → SpellsCharacter (escape c) (c ∷ [])
escape_spelled c h = cond_both (c == 34) _ _ (λ e. SpellsCharacter e (c ∷ [])) (λ t. two_characters 34 34 c (eqb-true c 34 t) (escaped 34 34 refl)) (λ q.
    cond_both (c == 92) _ _ (λ e. SpellsCharacter e (c ∷ [])) (λ t. two_characters 92 92 c (eqb-true c 92 t) (escaped 92 92 refl)) (λ s.
    cond_both (c == 8) _ _ (λ e. SpellsCharacter e (c ∷ [])) (λ t. two_characters 98 8 c (eqb-true c 8 t) (escaped 98 8 refl)) (λ _.
    cond_both (c == 12) _ _ (λ e. SpellsCharacter e (c ∷ [])) (λ t. two_characters 102 12 c (eqb-true c 12 t) (escaped 102 12 refl)) (λ _.
    cond_both (c == 10) _ _ (λ e. SpellsCharacter e (c ∷ [])) (λ t. two_characters 110 10 c (eqb-true c 10 t) (escaped 110 10 refl)) (λ _.
    cond_both (c == 13) _ _ (λ e. SpellsCharacter e (c ∷ [])) (λ t. two_characters 114 13 c (eqb-true c 13 t) (escaped 114 13 refl)) (λ _.
    cond_both (c == 9) _ _ (λ e. SpellsCharacter e (c ∷ [])) (λ t. two_characters 116 9 c (eqb-true c 9 t) (escaped 116 9 refl)) (λ _.
    cond_both (nat_lt c 32) _ _ (λ e. SpellsCharacter e (c ∷ []))
    (λ t. subst (SpellsCharacter (92 ∷ 117 ∷ 48 ∷ 48 ∷ lower_hex (c / 16) ∷ lower_hex (c % 16) ∷ [])) (encode_1 c h)
    (unit (48 ∷ 48 ∷ lower_hex (c / 16) ∷ lower_hex (c % 16) ∷ []) c (control_hex c (ltb-true c 32 t)) (low_is_scalar c (omega arith))))
    (λ f. short_character c (ltb-false c 32 f) (omega arith) (eqb-false c 34 q) (eqb-false c 92 s)))))))))

-- a byte of a longer character is not escaped
escape_high : (b : ℕ) → 128 ≤ b → escape b ≡ b ∷ []
escape_high b h = grind (arith, nat_tests)

abbrev AreHigh : List ℕ → Type 0
AreHigh [] = Unit {0}
AreHigh (b ∷ bs) = (128 ≤ b) × AreHigh bs

all_high : (bs : List ℕ) → AreHigh bs → flat_map escape bs ≡ bs
all_high [] h = refl
all_high (b ∷ bs) h = rw (escape_high b h.0, all_high bs h.1)

long_plain : (c : ℕ) → 128 ≤ c → flat_map escape (encode_utf8 c) ≡ encode_utf8 c
long_plain c h = ⊎_elim (λ l. subst (λ x. flat_map escape x ≡ x) (sym (encode_2 c h l)) (all_high (_ ∷ _ ∷ []) (omega arith, (omega arith, tt)))) (λ l.
    ⊎_elim (λ u. subst (λ x. flat_map escape x ≡ x) (sym (encode_3 c l u)) (all_high (_ ∷ _ ∷ _ ∷ []) (omega arith, (omega arith, (omega arith, tt)))))
    (λ u. subst (λ x. flat_map escape x ≡ x) (sym (encode_4 c u))
    (all_high (_ ∷ _ ∷ _ ∷ _ ∷ []) (omega arith, (omega arith, (omega arith, (omega arith, tt)))))) (cases_lt c 65536)) (cases_lt c 2048)

long_spelled : (c : ℕ) → IsScalar c → 128 ≤ c → SpellsCharacter (flat_map escape (encode_utf8 c)) (encode_utf8 c)
long_spelled c s h = subst (λ x. SpellsCharacter x (encode_utf8 c)) (sym (long_plain c h)) (unescaped c s (omega arith) (λ e. omega arith) (λ e. omega arith))

short_spelled : (c : ℕ) → c < 128 → SpellsCharacter (flat_map escape (encode_utf8 c)) (encode_utf8 c)
short_spelled c h = subst (λ x. SpellsCharacter (flat_map escape x) x) (sym (encode_1 c h))
    (subst (λ x. SpellsCharacter x (c ∷ [])) (sym (append-nil (escape c))) (escape_spelled c h))

character_spelled : (c : ℕ) → IsScalar c → SpellsCharacter (flat_map escape (encode_utf8 c)) (encode_utf8 c)
character_spelled c s = ⊎_elim (λ h. short_spelled c h) (λ h. long_spelled c s h) (cases_lt c 128)

characters_spelled : (cs : List ℕ) → all_scalars cs ≡ true → SpellsCharacters (flat_map escape (encode_utf8_all cs)) (encode_utf8_all cs)
characters_spelled [] h = none
characters_spelled (c ∷ cs) h = let p = and_parts _ _ h in
    subst (λ x. SpellsCharacters x (encode_utf8 c ++ encode_utf8_all cs)) (sym (flat_map-append escape (encode_utf8 c) (encode_utf8_all cs)))
    (more (character_spelled c p.0) (characters_spelled cs p.1))

pub quoted_spelled : (bytes : List ℕ) → IsUtf8 bytes → SpellsString (quoted bytes) bytes
quoted_spelled bytes u = (flat_map escape bytes, refl, subst (λ x. SpellsCharacters (flat_map escape x) x) u.1.1 (characters_spelled u.0 u.1.0))

-- a node that represents a tree, with no key twice and as many levels
record Back (n : Node) (t : Tree) : Type 0 where
  same : value_of n ≡ t
  once : first_repeat n ≡ None
  levels : levels_of n ≡ tree_levels t

data ItemsBack : Nodes → Items → Type 0 where
  no_items_back : ItemsBack no_nodes no_items
  item_back : {n : Node} {t : Tree} {ns : Nodes} {items : Items} → Back n t → ItemsBack ns items → ItemsBack (node n ns) (item t items)

data MembersBack : Fields → Members → Type 0 where
  no_members_back : MembersBack no_fields no_members
  member_back : (place : ℕ) (key : List ℕ) {n : Node} {t : Tree} {fs : Fields} {ms : Members} → Back n t → MembersBack fs ms
      → MembersBack (field place key n fs) (member key t ms)

items_same : {ns : Nodes} {items : Items} → ItemsBack ns items → items_of (values_of ns) ≡ items
items_same no_items_back = refl
items_same (item_back {n = n} {t = t} {ns = ns} {items = items} b bs) = let f : value_of n ≡ t = b.same in
    let g : items_of (values_of ns) ≡ items = items_same bs in cc

items_once : {ns : Nodes} {items : Items} → ItemsBack ns items → first_repeat_in ns ≡ None
items_once no_items_back = refl
items_once (item_back {ns = ns} b bs) = ap (λ x. first_of x (first_repeat_in ns)) b.once ∙ items_once bs

items_same_levels : {ns : Nodes} {items : Items} → ItemsBack ns items → levels_of_nodes ns ≡ items_levels items
items_same_levels no_items_back = refl
items_same_levels (item_back b bs) = cc (b.levels, items_same_levels bs)

members_same_levels : {fs : Fields} {ms : Members} → MembersBack fs ms → levels_of_fields fs ≡ members_levels ms
members_same_levels no_members_back = refl
members_same_levels (member_back place key b bs) = cc (b.levels, members_same_levels bs)

-- none of the keys is a member's
abbrev LackKeys : List (List ℕ) → Members → Type 0
LackKeys [] ms = Unit {0}
LackKeys (k ∷ ks) ms = LacksKey k ms × LackKeys ks ms

keys_after_one : (ks : List (List ℕ)) (key : List ℕ) (t : Tree) (ms : Members) → LackKeys ks (member key t ms) → LackKeys ks ms
keys_after_one [] key t ms h = tt
keys_after_one (k ∷ ks) key t ms h = (h.0.1, keys_after_one ks key t ms h.1)

bool_false : (b : Bool) → (b ≡ true → ⊥) → b ≡ false
bool_false true h = absurd (h refl)
bool_false false h = refl

keys_differ : (key k : List ℕ) → k ≢ key → bytes_eq key k ≡ false
keys_differ key k h = bool_false (bytes_eq key k) (λ t. h (sym ((bytes_eq-Decides key k).0 t)))

not_among : (ks : List (List ℕ)) (key : List ℕ) (t : Tree) (ms : Members) → LackKeys ks (member key t ms) → list_any (bytes_eq key) ks ≡ false
not_among [] key t ms h = refl
not_among (k ∷ ks) key t ms h = rw (keys_differ key k h.0.0, not_among ks key t ms h.1)

members_once : {fs : Fields} {ms : Members} → MembersBack fs ms → (ks : List (List ℕ)) → AreMembers ms → LackKeys ks ms → first_repeat_after ks fs ≡ None
members_once no_members_back ks v h = refl
members_once (member_back place key {n = n} {t = t} {fs = fs} {ms = ms} b bs) ks v h =
    ap (λ x. first_of (cond x (Some place) None) (first_of (first_repeat n) (first_repeat_after (key ∷ ks) fs))) (not_among ks key t ms h)
    ∙ ap (λ x. first_of x (first_repeat_after (key ∷ ks) fs)) b.once ∙ members_once bs (key ∷ ks) v.3 (v.1, keys_after_one ks key t ms h)

-- members after others
abbrev joined : List (List ℕ × Tree) → Members → Members
joined [] ms = ms
joined (m ∷ before) ms = member m.0 m.1 (joined before ms)

abbrev keys_of : List (List ℕ × Tree) → List (List ℕ)
keys_of [] = []
keys_of (m ∷ ms) = m.0 ∷ keys_of ms

joined_none : (before : List (List ℕ × Tree)) → members_of before ≡ joined before no_members
joined_none [] = refl
joined_none (m ∷ before) = ap (member m.0 m.1) (joined_none before)

joined_one : (before : List (List ℕ × Tree)) (key : List ℕ) (t : Tree) (ms : Members) → joined (before ++ (key, t) ∷ []) ms ≡ joined before (member key t ms)
joined_one [] key t ms = refl
joined_one (m ∷ before) key t ms = ap (member m.0 m.1) (joined_one before key t ms)

-- a key that is lacking goes to the end
at_end : (before : List (List ℕ × Tree)) (key : List ℕ) (u t : Tree) (ms : Members) → LackKeys (keys_of before) (member key u ms)
    → with_member key t before ≡ before ++ (key, t) ∷ []
at_end [] key u t ms h = refl
at_end (m ∷ before) key u t ms h = cond-false _ _ _ (keys_differ key m.0 h.0.0) ∙ ap (λ x. m ∷ x) (at_end before key u t ms h.1)

lack_one_more : (before : List (List ℕ × Tree)) (key : List ℕ) (t : Tree) (ms : Members) → LackKeys (keys_of before) ms → LacksKey key ms
    → LackKeys (keys_of (before ++ (key, t) ∷ [])) ms
lack_one_more [] key t ms h l = (l, tt)
lack_one_more (m ∷ before) key t ms h l = (h.0, lack_one_more before key t ms h.1 l)

members_same : {fs : Fields} {ms : Members} → MembersBack fs ms → (before : List (List ℕ × Tree)) → AreMembers ms → LackKeys (keys_of before) ms
    → members_of (members_after before fs) ≡ joined before ms
members_same no_members_back before v h = joined_none before
members_same (member_back place key {n = n} {t = t} {fs = fs} {ms = ms} b bs) before v h =
    ap (λ x. members_of (members_after x fs)) (at_end before key t (value_of n) ms h ∙ ap (λ x. before ++ (key, x) ∷ []) b.same)
    ∙ members_same bs (before ++ (key, t) ∷ []) v.3 (lack_one_more before key t ms (keys_after_one (keys_of before) key t ms h) v.1)
    ∙ joined_one before key t ms

-- with no white space around it
unpadded : (P : ℕ → List ℕ → Type 0) (at : ℕ) (bytes : List ℕ) → P (at + 0) bytes → Padded P at bytes
unpadded P at bytes h = ([], bytes, [], sym (append-nil bytes), tt, h, tt)

plain_value : (n : Node) (at : ℕ) (bytes : List ℕ) → SpellsValue (at + 0) bytes n → Padded (λ place inside. SpellsValue place inside n) at bytes
plain_value n at bytes h = unpadded (λ place inside. SpellsValue place inside n) at bytes h

-- the place after a key and its colon
abbrev after_key : ℕ → List ℕ → ℕ
after_key at key = at + 0 + length (quoted key) + 0 + 1

plain_field : (n : Node) (at : ℕ) (key bytes : List ℕ) → IsUtf8 key → SpellsValue (after_key at key + 0) bytes n
    → SpellsField (Padded (λ place inside. SpellsValue place inside n)) at (quoted key ++ 58 ∷ bytes) (at + 0) key
plain_field n at key bytes u h = ([], quoted key, [], bytes, refl, tt, refl, quoted_spelled key u, tt, plain_value n (after_key at key) bytes h)

abbrev IsSpelled : ℕ → List ℕ → Tree → Type 0
IsSpelled at bytes t = (n : Node) × SpellsValue at bytes n × Back n t

mutual
  value_spelled : (t : Tree) (at : ℕ) → IsValue t → IsSpelled at (compact_text t) t
  value_spelled null at v = (null_node, refl, record { same = refl; once = refl; levels = refl })
  value_spelled (truth true) at v = (truth_node true, refl, record { same = refl; once = refl; levels = refl })
  value_spelled (truth false) at v = (truth_node false, refl, record { same = refl; once = refl; levels = refl })
  value_spelled (number spelling) at v = (number_node spelling, (refl, v), record { same = refl; once = refl; levels = refl })
  value_spelled (text t) at v = (text_node t, quoted_spelled t v, record { same = refl; once = refl; levels = refl })
  value_spelled (list items) at v = let r = items_spelled items (at + 1) v in
      (list_node r.0, (items_text items, refl, r.1), record { same = ap list (items_same r.2); once = items_once r.2; levels = ap suc (items_same_levels r.2) })
  value_spelled (object ms) at v = let r = members_spelled ms (at + 1) v in let back : Back (object_node r.0) (object ms) =
      record { same = ap object (members_same r.2 [] v tt); once = members_once r.2 [] v tt; levels = ap suc (members_same_levels r.2) } in
      (object_node r.0, (members_text ms, refl, r.1), back)

  items_spelled : (items : Items) (at : ℕ) → AreItems items → (ns : Nodes) × SpellsItems at (items_text items) ns × ItemsBack ns items
  items_spelled no_items at v = (no_nodes, tt, no_items_back)
  items_spelled (item t items) at v = let (n, here, back) = value_spelled t (at + 0) v.0 in
      let (ns, rest, others) = more_items_spelled items (at + length (compact_text t)) v.1 in
      (node n ns, (compact_text t, more_items_text items, refl, plain_value n at (compact_text t) here, rest), item_back back others)

  more_items_spelled : (items : Items) (at : ℕ) → AreItems items → (ns : Nodes) × SpellsMoreItems at (more_items_text items) ns × ItemsBack ns items
  more_items_spelled no_items at v = (no_nodes, refl, no_items_back)
  more_items_spelled (item t items) at v = let (n, here, back) = value_spelled t (at + 1 + 0) v.0 in
      let (ns, rest, others) = more_items_spelled items (at + 1 + length (compact_text t)) v.1 in
      (node n ns, (compact_text t, more_items_text items, refl, plain_value n (at + 1) (compact_text t) here, rest), item_back back others)

  members_spelled : (ms : Members) (at : ℕ) → AreMembers ms → (fs : Fields) × SpellsMembers at (members_text ms) fs × MembersBack fs ms
  members_spelled no_members at v = (no_fields, tt, no_members_back)
  members_spelled (member key t ms) at v = let first = quoted key ++ 58 ∷ compact_text t in let (n, here, back) = value_spelled t (after_key at key + 0) v.2 in
      let (fs, rest, others) = more_members_spelled ms (at + length first) v.3 in
      let join = sym (append_assoc (quoted key) (58 ∷ compact_text t) (more_members_text ms)) in
      (field (at + 0) key n fs, (first, more_members_text ms, join, plain_field n at key (compact_text t) v.0 here, rest), member_back (at + 0) key back others)

  more_members_spelled : (ms : Members) (at : ℕ) → AreMembers ms → (fs : Fields) × SpellsMoreMembers at (more_members_text ms) fs × MembersBack fs ms
  more_members_spelled no_members at v = (no_fields, refl, no_members_back)
  more_members_spelled (member key t ms) at v = let first = quoted key ++ 58 ∷ compact_text t in
      let (n, here, back) = value_spelled t (after_key (at + 1) key + 0) v.2 in let (fs, rest, others) = more_members_spelled ms (at + 1 + length first) v.3 in
      let join = ap (λ x. 44 ∷ x) (sym (append_assoc (quoted key) (58 ∷ compact_text t) (more_members_text ms))) in
      let spelled = plain_field n (at + 1) key (compact_text t) v.0 here in
      (field (at + 1 + 0) key n fs, (first, more_members_text ms, join, spelled, rest), member_back (at + 1 + 0) key back others)

-- the compact text of a value is a JSON text of its levels that represents it, with no key twice
pub compact_spelled : (t : Tree) → IsValue t → (n : Node) × IsText (tree_levels t) (compact_text t) n × (value_of n ≡ t) × (first_repeat n ≡ None)
compact_spelled t v = let (n, here, back) = value_spelled t (0 + 0) v in
    (n, record { spelled = plain_value n 0 (compact_text t) here; within = omega (arith, back.levels) }, back.same, back.once)
