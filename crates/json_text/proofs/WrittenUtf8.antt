-- The compact text of a value is UTF-8: `compact_utf8`.
use Rattle.std.proofs.Common.{◌≡◌, ℕ, ◌<◌, true, false, nat_lt, List, [], ◌∷◌, Some, refl, sym, subst, arith, codes, ltb-true}
use Rattle.std.proofs.{lemmas.Str.IsUtf8-append, lemmas.Str.IsUtf8-encode, lemmas.Str.IsUtf8-nil, lemmas.Bool.and_parts}
use Rattle.std.proofs.{lemmas.Bool.Decides.nat_tests}
use Rattle.std.specs.{Str.IsUtf8, List.list_all}
use Rattle.json_text.specs.Characters.{SpellsCharacter, unescaped, escaped, unit, pair, SpellsCharacters, none, more, IsHex, hex_digit_of, escape_of}
use Rattle.json_text.specs.Compact.{quoted, compact_text, items_text, more_items_text, members_text, more_members_text, IsValue, AreItems, AreMembers}
use Rattle.json_text.specs.Tree.{Tree, null, truth, number, text, list, object, Items, no_items, item, Members, no_members, member}
use Rattle.json_text.specs.Reading.{minus, zero_int, int}
use Rattle.json_text.proofs.NumberReads.{Starts, with_minus, with_zero, with_digit, starts, ascii_cons, accepted_utf8}
use Rattle.json_text.proofs.SpelledBack.{quoted_spelled}

byte_utf8 : (c : ℕ) → c < 128 → IsUtf8 (c ∷ [])
byte_utf8 c h = ascii_cons c [] h IsUtf8-nil

pub small_utf8 : (bs : List ℕ) → list_all (λ b. nat_lt b 128) bs ≡ true → IsUtf8 bs
small_utf8 [] h = IsUtf8-nil
small_utf8 (b ∷ bs) h = let p = and_parts (nat_lt b 128) (list_all (λ b. nat_lt b 128) bs) h in ascii_cons b bs (ltb-true b 128 p.0) (small_utf8 bs p.1)

-- the bytes that spell characters are UTF-8
hex_ascii : (b d : ℕ) → hex_digit_of b ≡ Some d → b < 128
hex_ascii b d e = grind (arith, nat_tests)

escape_ascii : (b c : ℕ) → escape_of b ≡ Some c → b < 128
escape_ascii b c e = grind (arith, nat_tests)

unit_utf8 : (digits : List ℕ) (u : ℕ) → IsHex digits u → IsUtf8 (92 ∷ 117 ∷ digits)
unit_utf8 digits u (a, b, c, d, w, x, y, z, is, e, f, g, h, sum) = rw is (ascii_cons 92 _ (omega arith) (ascii_cons 117 _ (omega arith)
    (ascii_cons a _ (hex_ascii a w e) (ascii_cons b _ (hex_ascii b x f) (ascii_cons c _ (hex_ascii c y g) (byte_utf8 d (hex_ascii d z h)))))))

character_utf8 : {bytes text : List ℕ} → SpellsCharacter bytes text → IsUtf8 bytes
character_utf8 (unescaped c s l q t) = IsUtf8-encode c s
character_utf8 (escaped b c e) = ascii_cons 92 (b ∷ []) (omega arith) (byte_utf8 b (escape_ascii b c e))
character_utf8 (unit digits c h s) = unit_utf8 digits c h
character_utf8 (pair first second lead low h i j k) = IsUtf8-append _ _ (unit_utf8 first lead h) (unit_utf8 second low i)

spelled_utf8 : {bytes text : List ℕ} → SpellsCharacters bytes text → IsUtf8 bytes
spelled_utf8 none = IsUtf8-nil
spelled_utf8 (more p ps) = IsUtf8-append _ _ (character_utf8 p) (spelled_utf8 ps)

quoted_utf8 : (bytes : List ℕ) → IsUtf8 bytes → IsUtf8 (quoted bytes)
quoted_utf8 bytes u = let (inside, is, spelled) = quoted_spelled bytes u in
    subst IsUtf8 (sym is) (ascii_cons 34 _ (omega arith) (IsUtf8-append _ _ (spelled_utf8 spelled) (byte_utf8 34 (omega arith))))

number_utf8 : (bs : List ℕ) → Starts bs → IsUtf8 bs
number_utf8 _ (with_minus t h) = ascii_cons 45 t (omega arith) (accepted_utf8 minus t h)
number_utf8 _ (with_zero t h) = ascii_cons 48 t (omega arith) (accepted_utf8 zero_int t h)
number_utf8 _ (with_digit b t d h) = ascii_cons b t (grind (arith, nat_tests)) (accepted_utf8 int t h)

mutual
  pub compact_utf8 : (t : Tree) → IsValue t → IsUtf8 (compact_text t)
  compact_utf8 null v = small_utf8 (codes "null") refl
  compact_utf8 (truth true) v = small_utf8 (codes "true") refl
  compact_utf8 (truth false) v = small_utf8 (codes "false") refl
  compact_utf8 (number spelling) v = number_utf8 spelling (starts spelling v)
  compact_utf8 (text t) v = quoted_utf8 t v
  compact_utf8 (list items) v = ascii_cons 91 _ (omega arith) (IsUtf8-append _ _ (items_utf8 items v) (byte_utf8 93 (omega arith)))
  compact_utf8 (object inside) v = ascii_cons 123 _ (omega arith) (IsUtf8-append _ _ (members_utf8 inside v) (byte_utf8 125 (omega arith)))

  items_utf8 : (items : Items) → AreItems items → IsUtf8 (items_text items)
  items_utf8 no_items v = IsUtf8-nil
  items_utf8 (item t items) v = IsUtf8-append _ _ (compact_utf8 t v.0) (more_items_utf8 items v.1)

  more_items_utf8 : (items : Items) → AreItems items → IsUtf8 (more_items_text items)
  more_items_utf8 no_items v = IsUtf8-nil
  more_items_utf8 (item t items) v = ascii_cons 44 _ (omega arith) (IsUtf8-append _ _ (compact_utf8 t v.0) (more_items_utf8 items v.1))

  members_utf8 : (ms : Members) → AreMembers ms → IsUtf8 (members_text ms)
  members_utf8 no_members v = IsUtf8-nil
  members_utf8 (member key t ms) v = IsUtf8-append _ _ (quoted_utf8 key v.0)
      (ascii_cons 58 _ (omega arith) (IsUtf8-append _ _ (compact_utf8 t v.2) (more_members_utf8 ms v.3)))

  more_members_utf8 : (ms : Members) → AreMembers ms → IsUtf8 (more_members_text ms)
  more_members_utf8 no_members v = IsUtf8-nil
  more_members_utf8 (member key t ms) v = ascii_cons 44 _ (omega arith)
      (IsUtf8-append _ _ (quoted_utf8 key v.0) (ascii_cons 58 _ (omega arith) (IsUtf8-append _ _ (compact_utf8 t v.2) (more_members_utf8 ms v.3))))
