-- What the bytes of a reply show of its status code (RFC 9112, section 4; RFC 9110, section 15). The limits are this
-- project's own rule.
use Rattle.std.specs.Prelude.{◌≡◌, ℕ, ◌+◌, ◌<◌, ◌≤◌, Bool, true, false, ◌&&◌, ◌||◌, ◌==◌, nat_le, List, [], ◌∷◌, ◌++◌, length, All, Option, Some, None}
use Rattle.std.specs.List.{flat_map}
use Rattle.httparse.specs.Grammar.{ResponseHead, IsResponseHead, print_response, status_code, HasNoResponse, MayBecomeResponse}
use Rattle.http_target.specs.declared.reply.Reply.{Reply}
use Rattle.http_target.specs.declared.reply.Reply.TheVariants.{Whole, NotYet, Never}
use Rattle.http_target.specs.declared.reply.Front.{Front}
use Rattle.http_target.specs.declared.reply.Front.TheVariants as front

-- another head follows one with this code: 100, and 102 to 199 (RFC 9110, section 15.2). After 101
-- the connection leaves HTTP, so no head follows.
abbrev pub is_interim : ℕ → Bool
is_interim code = code == 100 || (nat_le 102 code && nat_le code 199)

-- a head of the grammar with at most 256 fields
pub record IsHead (h : ResponseHead) : Type 0 where
  pub valid : IsResponseHead h
  pub few : length h.fields ≤ 256

-- a head that another one follows
abbrev pub IsInterim : ResponseHead → Type 0
IsInterim h = IsHead h × (is_interim (status_code h) ≡ true)

-- a head that none follows
abbrev pub IsFinal : ResponseHead → Type 0
IsFinal h = IsHead h × (is_interim (status_code h) ≡ false)

-- the bytes of the heads
abbrev pub heads_bytes : List ResponseHead → List ℕ
heads_bytes heads = flat_map print_response heads

-- the code of the last head
abbrev pub last_code : List ResponseHead → Option ℕ
last_code [] = None
last_code (h ∷ []) = Some (status_code h)
last_code (h ∷ k ∷ heads) = last_code (k ∷ heads)

-- the bytes are these interim heads, then that final head, all of them in at most 16,384 bytes, and then the rest
pub record IsReply (bytes : List ℕ) (skipped : List ResponseHead) (final : ResponseHead) (rest : List ℕ) : Type 0 where
  pub skipped_are : All IsInterim skipped
  pub final_is : IsFinal final
  pub bytes_are : bytes ≡ heads_bytes skipped ++ (print_response final ++ rest)
  pub short : length (heads_bytes skipped) + length (print_response final) ≤ 16384

-- the bytes have a final head, with this code
abbrev pub HasStatus : List ℕ → ℕ → Type 0
HasStatus bytes code =
    (skipped : List ResponseHead) × (final : ResponseHead) × (rest : List ℕ) × IsReply bytes skipped final rest × (code ≡ status_code final)

-- the bytes are these interim heads, and then what may be the beginning of a head
pub record IsAwaited (bytes : List ℕ) (last : Option ℕ) (skipped : List ResponseHead) (rest : List ℕ) : Type 0 where
  pub skipped_are : All IsInterim skipped
  pub last_is : last ≡ last_code skipped
  pub bytes_are : bytes ≡ heads_bytes skipped ++ rest
  pub none : HasNoResponse rest
  pub may : MayBecomeResponse rest
  pub short : length bytes < 16384

-- no final head is whole yet, and the bytes may still become a head of the grammar
abbrev pub IsNotYet : List ℕ → Option ℕ → Type 0
IsNotYet bytes last =
    ((code : ℕ) → ¬ (HasStatus bytes code)) × (skipped : List ResponseHead) × (rest : List ℕ) × IsAwaited bytes last skipped rest

-- no bytes that follow give a final head
abbrev pub HasNever : List ℕ → Type 0
HasNever bytes = (more : List ℕ) (code : ℕ) → ¬ (HasStatus (bytes ++ more) code)

-- What is reported of the bytes of a reply. `Whole(code)`: heads with codes 100 and 102 to 199, then a head with this other code, each of
-- at most 256 fields, all in at most 16,384 bytes. `NotYet(last)`: no such head, and fewer than 16,384 bytes, which after the first heads
-- may become a head of the grammar, perhaps past the limits; `last` is the code of the last head so far. `Never`: no bytes that follow give
-- one.
-- Shown by: outside_tests test_http_target.rt: the_final_head_gives_the_code, a_head_has_at_most_256_fields_and_16384_bytes.
abbrev pub Reads : List ℕ → Reply → Type 0
Reads bytes (Whole code) = HasStatus bytes code
Reads bytes (NotYet last) = IsNotYet bytes last
Reads bytes Never = HasNever bytes

-- the bytes are this head and then the rest
pub record IsHeadAt (bytes : List ℕ) (code : ℕ) (rest : List ℕ) (h : ResponseHead) : Type 0 where
  pub head : IsHead h
  pub code_is : code ≡ status_code h
  pub bytes_are : bytes ≡ print_response h ++ rest

-- what is at the front of the bytes
abbrev pub FindsHead : List ℕ → Front → Type 0
FindsHead bytes (front.Whole code rest) = (h : ResponseHead) × IsHeadAt bytes code rest.now h
FindsHead bytes front.Partial = HasNoResponse bytes × MayBecomeResponse bytes
FindsHead bytes front.Never = (more : List ℕ) (h : ResponseHead) (rest : List ℕ) → IsHead h → ¬ (bytes ++ more ≡ print_response h ++ rest)
