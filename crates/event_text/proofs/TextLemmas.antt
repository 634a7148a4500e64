-- Strings, piece by piece: `nothing_begins`, `texts_joined`, `ascii_begins`, `wide_begins`, `escape_begins`, `plain_begins`, `key_begins`.
-- Bytes whose first ones are known: `cut_1`, `cut_2`, `left_after`, `left_shorter`. What tests of a front say: `not_begun`, `begun`.
use Rattle.std.proofs.Common.{◌≡◌, ◌≢◌, ℕ, ◌<◌, ◌≤◌, ◌-◌, true, false, Bool, Option, Some, None, List, [], ◌∷◌, ◌++◌, length, take, drop, get_or, flat_map, refl, sym, ap, ap₂, subst, ◌∙◌, arith, append_assoc}
use Rattle.std.proofs.lemmas.Bool.{false≢true}
use Rattle.std.proofs.lemmas.Bool.Decides.{nat_tests, Decides-eqb}
use Rattle.std.proofs.lemmas.Grind.{flat_map-append}
use Rattle.std.proofs.lemmas.List.{append-nil, length-append, length-drop, length-take, take-append-drop, take_at, take_rest, get_or-take}
use Rattle.std.proofs.lemmas.Slice.Eq.{starts_is}
use Rattle.std.proofs.lemmas.Str.{IsUtf8-append, IsUtf8-nil, IsUtf8-from_ascii}
use Rattle.std.proofs.lemmas.Str.Ascii.{IsAscii-from_reads}
use Rattle.std.specs.Borrow.{Bor}
use Rattle.std.specs.List.{starts_with}
use Rattle.std.specs.Prelude.{IfSome, MatchOption, nat_eq}
use Rattle.std.specs.Str.{IsUtf8}
use Rattle.json_text.specs.Compact.{escape}
use Rattle.json_text.specs.Plain.{is_plain, PlainBetween}
use Rattle.json_text.proofs.NumberReads.{ascii_cons}
use Rattle.json_text.proofs.PlainLemmas.{plain_written}
use Rattle.event_text.specs.Written.{BeginsKey, BeginsText, hash_from}

pub nothing_begins : (bytes : List ℕ) → BeginsText [] bytes bytes
nothing_begins bytes = record { utf8 = IsUtf8-nil; written = refl }

pub texts_joined : (t u bytes left rest : List ℕ) → BeginsText t bytes left → BeginsText u left rest → BeginsText (t ++ u) bytes rest
texts_joined t u bytes left rest p q = record {
  utf8 = IsUtf8-append t u p.utf8 q.utf8;
  written = p.written ∙ ap (λ x. flat_map escape t ++ x) q.written ∙ sym (append_assoc (flat_map escape t) (flat_map escape u) rest)
      ∙ ap (λ x. x ++ rest) (sym (flat_map-append escape t u));
}

plain_wide : (b : ℕ) → is_plain 127 b ≡ true → is_plain 255 b ≡ true
plain_wide b h = grind (arith, nat_tests)

plain_low : (b : ℕ) → is_plain 127 b ≡ true → b < 128
plain_low b h = grind (arith, nat_tests)

pub wide_begins : (bytes front rest : List ℕ) (n : ℕ) → n ≤ length bytes → PlainBetween 255 bytes 0 n → front ≡ take n bytes → rest ≡ drop n bytes → IsUtf8 front
    → BeginsText front bytes rest
wide_begins bytes front rest n h plain is cut utf8 =
    let same : flat_map escape front ≡ take n bytes = ap (flat_map escape) is ∙ plain_written bytes n plain h in
    record { utf8 = utf8; written = sym (take-append-drop n bytes) ∙ ap₂ (λ x y. x ++ y) (sym same) (sym cut) }

ascii_utf8 : (bytes : List ℕ) (n : ℕ) → n ≤ length bytes → PlainBetween 127 bytes 0 n → IsUtf8 (take n bytes)
ascii_utf8 bytes n h plain = IsUtf8-from_ascii (take n bytes) (IsAscii-from_reads (take n bytes) n (omega (arith, length-take n bytes))
    (λ k below. rw (get_or-take n bytes k 0 below) (plain_low (get_or bytes k 0) (plain k (omega arith) below))))

pub ascii_begins : (bytes rest : List ℕ) (n : ℕ) → n ≤ length bytes → PlainBetween 127 bytes 0 n → rest ≡ drop n bytes → BeginsText (take n bytes) bytes rest
ascii_begins bytes rest n h plain cut =
    wide_begins bytes (take n bytes) rest n h (λ k from to. plain_wide (get_or bytes k 0) (plain k from to)) refl cut (ascii_utf8 bytes n h plain)

pub escape_begins : (c byte : ℕ) (bytes rest : List ℕ) → c < 128 → escape c ≡ 92 ∷ byte ∷ [] → bytes ≡ byte ∷ rest → BeginsText (c ∷ []) (92 ∷ bytes) rest
escape_begins c byte bytes rest low e is = record {
  utf8 = ascii_cons c [] low IsUtf8-nil;
  written = ap (λ x. 92 ∷ x) is ∙ ap (λ x. x ++ rest) (sym (append-nil (escape c) ∙ e));
}

-- bytes that begin with one byte, or with two
pub cut_1 : (bytes : List ℕ) (a : ℕ) → 1 ≤ length bytes → get_or bytes 0 0 ≡ a → bytes ≡ a ∷ drop 1 bytes
cut_1 [] a long p = absurd (omega arith)
cut_1 (x ∷ xs) a long p = ap (λ y. y ∷ xs) p

pub cut_2 : (bytes : List ℕ) (a b : ℕ) → 2 ≤ length bytes → get_or bytes 0 0 ≡ a → get_or bytes 1 0 ≡ b → bytes ≡ a ∷ b ∷ drop 2 bytes
cut_2 [] a b long p q = absurd (omega arith)
cut_2 (x ∷ xs) a b long p q = ap (λ y. y ∷ xs) p ∙ ap (λ ys. a ∷ ys) (cut_1 xs b (omega arith) q)

-- what a slice pattern leaves after its first bytes
pub left_after : (bytes : List ℕ) (n : ℕ) (front : List ℕ) → bytes ≡ front ++ drop n bytes → bytes ≡ front ++ take (length bytes - n) (drop n bytes)
left_after bytes n front is = is ∙ ap (λ x. front ++ x) (sym (take_rest bytes n))

-- a key with its colon, and the hash of what was read
pub key_begins : (k bytes rest front value : List ℕ) (hash : ℕ) → BeginsText k bytes (34 ∷ rest) → rest ≡ 58 ∷ value
    → front ≡ take (length bytes - length rest) bytes → hash ≡ hash_from 0 front → BeginsKey hash bytes value
key_begins k bytes rest front value hash p colon cut hashed =
    let key = flat_map escape k ++ 34 ∷ [] in
    let whole : bytes ≡ key ++ rest = p.written ∙ sym (append_assoc (flat_map escape k) (34 ∷ []) rest) in
    let long : length key ≡ length bytes - length rest = omega (arith, ap length whole, length-append key rest) in
    let same : front ≡ key = cut ∙ ap (take (length bytes - length rest)) whole ∙ take_at key rest (length bytes - length rest) long in
    record { key = k; utf8 = p.utf8; hashed = hashed ∙ ap (hash_from 0) same; written = p.written ∙ ap (λ x. flat_map escape k ++ 34 ∷ x) colon }

-- what a pattern with one or two known bytes leaves is shorter
pub left_shorter : (bytes : List ℕ) (n : ℕ) → length (take (length bytes - n) (drop n bytes)) ≤ length bytes - n
left_shorter bytes n = omega (arith, ap length (take_rest bytes n), length-drop n bytes)

-- a string of plain bytes, up to its quotation mark
pub plain_begins : (bytes front after rest : List ℕ) (n : ℕ) → n ≤ length bytes → PlainBetween 127 bytes 0 n → front ≡ take n bytes → after ≡ drop n bytes
    → after ≡ 34 ∷ rest → BeginsText front bytes (34 ∷ rest)
plain_begins bytes front after rest n h plain is cut mark =
    let p : BeginsText (take n bytes) bytes (34 ∷ rest) = ascii_begins bytes (34 ∷ rest) n h plain (sym mark ∙ cut) in
    subst (λ t. BeginsText t bytes (34 ∷ rest)) (sym is) p

-- what a test of a front says of the whole
pub not_begun : (bytes front : List ℕ) (begins : Bool) → begins ≡ starts_with nat_eq bytes front → begins ≡ false → (more : List ℕ) → ¬ (bytes ≡ front ++ more)
not_begun bytes front begins is none more e = false≢true (sym none ∙ (starts_is Decides-eqb bytes front begins is).1 more e)

pub begun : (bytes front : List ℕ) (r : Option (Bor (List ℕ))) → MatchOption r ((rest : List ℕ) → bytes ≢ front ++ rest) (λ rest. bytes ≡ front ++ rest.now)
    → IfSome r (λ rest. bytes ≡ front ++ rest.now)
begun bytes front None h = tt
begun bytes front (Some rest) h = h
