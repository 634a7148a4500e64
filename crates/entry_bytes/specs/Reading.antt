-- What is at the front of bytes, as a value and the bytes after it. duty_journal reads on from there. What is read has the bytes that the
-- other files define: `IsReadAs`.
use Rattle.std.specs.Prelude.{◌≡◌, ◌<◌, ◌++◌, ℕ, slice_index, zero, suc, Bool, true, false, List, [], ◌∷◌, length, take, drop, Option, Some, None, Result, Ok, Err, nat_lt, ◌==◌, if◌then◌else◌}
use Rattle.std.specs.Int.{w16, w32, w64, from_be_bytes}
use Rattle.std.specs.Str.{is_utf8}
use Rattle.entry_bytes.specs.declared.fault.ReadFault.{ReadFault}
use Rattle.entry_bytes.specs.declared.fault.ReadFault.TheVariants as fault

infixl 10 ◌>>=◌
abbrev pub ◌>>=◌ : {A B : Type 0} → Option A → (A → Option B) → Option B
(Some x) >>= f = f x
None >>= f = None

-- Memory ran out, or this is why.
abbrev pub Blames : Type 0 → ReadFault → Type 0
Blames why fault.NoMemory = Unit {0}
Blames why fault.NotSpelled = why

-- What a function returned, seen by view, is at the front; what it refused is not, unless memory ran out.
-- Shown by: no_text_is_the_last_field.edit.
abbrev pub Gives : {X Y : Type 0} → (X → Y) → Result X ReadFault → Option Y → Type 0
Gives view (Ok x) read = read ≡ Some (view x)
Gives view (Err e) read = Blames (read ≡ None) e

-- nothing good is at the front
abbrev pub HasNone : {Y : Type 0} → (Y → Type 0) → Option (Y × List ℕ) → Type 0
HasNone {Y} good read = (y : Y) (rest : List ℕ) → read ≡ Some (y, rest) → good y → ⊥

-- What a function returned, seen by view, is at the front, and is good; what it refused is not, unless memory ran out.
-- Shown by: a_policy_is_read_from_another_text.edit.
abbrev pub Finds : {X Y : Type 0} → (X → Y × List ℕ) → (Y → Type 0) → Result X ReadFault → Option (Y × List ℕ) → Type 0
Finds view good (Ok x) read = (read ≡ Some (view x)) × good (view x).0
Finds view good (Err e) read = Blames (HasNone good read) e

-- one value, and then another one
abbrev pub pair_at : {A B : Type 0} → (List ℕ → Option (A × List ℕ)) → (List ℕ → Option (B × List ℕ)) → List ℕ → Option ((A × B) × List ℕ)
pair_at a b bytes = a bytes >>= λ x. b x.1 >>= λ y. Some ((x.0, y.0), y.1)

-- a value that is made of another one
abbrev pub made_at : {A B : Type 0} → (A → B) → (List ℕ → Option (A × List ℕ)) → List ℕ → Option (B × List ℕ)
made_at make a bytes = a bytes >>= λ x. Some (make x.0, x.1)

-- this value, without a byte
abbrev pub nothing_at : {A : Type 0} → A → List ℕ → Option (A × List ℕ)
nothing_at x bytes = Some (x, bytes)

-- what the row with this number reads
abbrev pub choice_at : {A : Type 0} → List (ℕ × (List ℕ → Option (A × List ℕ))) → ℕ → List ℕ → Option (A × List ℕ)
choice_at [] k bytes = None
choice_at (row ∷ rows) k bytes = if k == row.0 then row.1 bytes else choice_at rows k bytes

-- The first byte.
-- Shown by: law a_change_is_read_as_it_is_spelled.
abbrev pub byte_at : List ℕ → Option (ℕ × List ℕ)
byte_at [] = None
byte_at (b ∷ rest) = Some (b, rest)

-- The number in the first two bytes, the higher first.
-- Shown by: a_number_begins_with_its_lowest_byte.edit.
abbrev pub two_at : List ℕ → Option (ℕ × List ℕ)
two_at bytes = if nat_lt (length bytes) 2 then None else Some (from_be_bytes w16 (take 2 bytes), drop 2 bytes)

-- the number in the first four bytes
abbrev pub four_at : List ℕ → Option (ℕ × List ℕ)
four_at bytes = if nat_lt (length bytes) 4 then None else Some (from_be_bytes w32 (take 4 bytes), drop 4 bytes)

-- The number in the first eight bytes, the highest first.
-- Shown by: law a_change_is_read_as_it_is_spelled.
abbrev pub eight_at : List ℕ → Option (ℕ × List ℕ)
eight_at bytes = if nat_lt (length bytes) 8 then None else Some (from_be_bytes w64 (take 8 bytes), drop 8 bytes)

-- The text at the front: the number of its bytes, and its bytes, which are UTF-8.
-- Shown by: no_text_is_the_last_field.edit.
unfoldable pub text_at : List ℕ → Option (List ℕ × List ℕ)
text_at bytes = four_at bytes >>= λ n.
    if nat_lt (length n.1) n.0 then None else if is_utf8 (take n.0 n.1) then Some (take n.0 n.1, drop n.0 n.1) else None

-- 0 or 1
unfoldable pub flag_at : List ℕ → Option (Bool × List ℕ)
flag_at [] = None
flag_at (zero ∷ rest) = Some (false, rest)
flag_at (suc zero ∷ rest) = Some (true, rest)
flag_at (suc (suc b) ∷ rest) = None

-- What may be missing: nothing after a 0, a value after a 1.
-- Shown by: table_tests test_duty_journal.rt: each_batch_has_its_bytes.
unfoldable pub optional_at : {A : Type 0} → (List ℕ → Option (A × List ℕ)) → List ℕ → Option (Option A × List ℕ)
optional_at item [] = None
optional_at item (zero ∷ rest) = Some (None, rest)
optional_at item (suc zero ∷ rest) = item rest >>= λ x. Some (Some x.0, x.1)
optional_at item (suc (suc b) ∷ rest) = None

-- so many items, one after the other
unfoldable pub items_at : {A : Type 0} → (List ℕ → Option (A × List ℕ)) → ℕ → List ℕ → Option (List A × List ℕ)
items_at item zero bytes = Some ([], bytes)
items_at item (suc n) bytes = item bytes >>= λ first. items_at item n first.1 >>= λ others. Some (first.0 ∷ others.0, others.1)

-- A list: the number of its items, and its items.
-- Shown by: law a_duty_is_read_as_it_is_spelled.
abbrev pub list_at : {A : Type 0} → (List ℕ → Option (A × List ℕ)) → List ℕ → Option (List A × List ℕ)
list_at item bytes = four_at bytes >>= λ n. items_at item n.0 n.1

-- bytes, each below 256
abbrev pub IsBytes : List ℕ → Type 0
IsBytes bytes = (i : ℕ) → slice_index bytes i < 256

-- what is taken from the front, and what is left
pub record Takes (bytes text rest : List ℕ) : Type 0 where
  pub parts : bytes ≡ text ++ rest
  pub rest_fits : IsBytes rest

-- A value that has bytes is found at their front, whatever follows; what is found has its bytes there. So no bytes have two values, and none
-- begin with those of two.
-- Shown by: proofs alone.
pub record IsReadAs {A : Type 0} (bytes_of : A → List ℕ) (at : List ℕ → Option (A × List ℕ)) (fits : A → Type 0) : Type 0 where
  pub takes : (bytes : List ℕ) (x : A) (rest : List ℕ) → IsBytes bytes → at bytes ≡ Some (x, rest) → Takes bytes (bytes_of x) rest × fits x
  pub again : (x : A) (rest : List ℕ) → fits x → at (bytes_of x ++ rest) ≡ Some (x, rest)
