-- What the heads at the front of a reply show. Answers cite `begin`, `skip`, `whole`, `not_yet`, `too_long` and `malformed`.
use Rattle.std.proofs.Common.{◌≡◌, ℕ, ◌+◌, ◌-◌, ◌<◌, ◌≤◌, true, false, List, [], ◌∷◌, ◌++◌, length, take, drop, Option, Some, None, refl, sym, ap, ◌∙◌, arith, append_assoc, append-nil, length-append}
use Rattle.std.specs.Prelude.{All}
use Rattle.std.proofs.lemmas.Bool.{both_ways}
use Rattle.std.proofs.lemmas.List.{take_all, take-append-drop, take-append-le, take_at, length-take}
use Rattle.std.proofs.lemmas.Grind.{flat_map-append}
use Rattle.std.proofs.lemmas.List.Elements.{All-nil, All-head, All-tail, All-push}
use Rattle.httparse.specs.Grammar.{ResponseHead, print_response, status_code, HasNoResponse, MayBecomeResponse}
use Rattle.httparse.proofs.GrammarLemmas.{response_unique}
use Rattle.http_target.specs.declared.reply.Front.TheVariants as front
use Rattle.http_target.specs.Reply.{is_interim, IsHead, IsInterim, IsFinal, heads_bytes, last_code, HasStatus, IsNotYet, HasNever, IsHeadAt, FindsHead}

-- these interim heads are at the front of the bytes that are looked at, and the rest comes after them
pub record Skipped (bytes rest : List ℕ) (last : Option ℕ) (skipped : List ResponseHead) : Type 0 where
  pub are : All IsInterim skipped
  pub last_is : last ≡ last_code skipped
  pub split : take 16384 bytes ≡ heads_bytes skipped ++ rest

-- no head at the front of the rest ends within the limit
abbrev NoneAt : ℕ → List ResponseHead → List ℕ → Type 0
NoneAt room skipped rest =
    (h : ResponseHead) (r : List ℕ) → IsHead h → rest ≡ print_response h ++ r → length (heads_bytes skipped) + length (print_response h) ≤ room → ⊥

same_head : (h k : ResponseHead) (r q : List ℕ) → IsHead h → IsHead k → print_response h ++ r ≡ print_response k ++ q → (h ≡ k) × (r ≡ q)
same_head h k r q first second same = response_unique (print_response h ++ r) h k r q (first.valid, refl) (second.valid, same)

-- then the bytes have no final head: its reading is the one that was found
no_reply : (room : ℕ) (skipped : List ResponseHead) (rest : List ℕ) → All IsInterim skipped → NoneAt room skipped rest
    → (others : List ResponseHead) (final : ResponseHead) (tail : List ℕ) → All IsInterim others → IsFinal final
    → heads_bytes skipped ++ rest ≡ heads_bytes others ++ (print_response final ++ tail)
    → length (heads_bytes others) + length (print_response final) ≤ room → ⊥
no_reply room [] rest are none [] final tail others_are ends same short = none final tail ends.0 same short
no_reply room [] rest are none (k ∷ others) final tail others_are ends same short =
    let long = length-append (print_response k) (heads_bytes others) in
    none k (heads_bytes others ++ (print_response final ++ tail)) (All-head IsInterim k others others_are).0
    (same ∙ append_assoc (print_response k) (heads_bytes others) (print_response final ++ tail)) (omega (arith, long, short))
no_reply room (h ∷ skipped) rest are none [] final tail others_are ends same short =
    let first = All-head IsInterim h skipped are in
    let one = same_head h final (heads_bytes skipped ++ rest) tail first.0 ends.0 (sym (append_assoc (print_response h) (heads_bytes skipped) rest) ∙ same) in
    absurd (both_ways _ (ap (λ x. is_interim (status_code x)) one.0 ∙ ends.1) first.1)
no_reply room (h ∷ skipped) rest are none (k ∷ others) final tail others_are ends same short =
    let first = All-head IsInterim h skipped are in
    let second = All-head IsInterim k others others_are in
    let one = same_head h k (heads_bytes skipped ++ rest) (heads_bytes others ++ (print_response final ++ tail)) first.0 second.0
    (sym (append_assoc (print_response h) (heads_bytes skipped) rest) ∙ same
    ∙ append_assoc (print_response k) (heads_bytes others) (print_response final ++ tail)) in
    let p = length (print_response h) in
    let same_size : p ≡ length (print_response k) = ap (λ x. length (print_response x)) one.0 in
    let long = length-append (print_response k) (heads_bytes others) in
    let before = length-append (print_response h) (heads_bytes skipped) in
    no_reply (room - p) skipped rest (All-tail IsInterim h skipped are)
    (λ x r is reads fits. none x r is reads (omega (arith, fits, before, long, short, same_size)))
    others final tail (All-tail IsInterim k others others_are) ends one.1 (omega (arith, long, short, same_size))

no_status : (bytes rest : List ℕ) (skipped : List ResponseHead) → All IsInterim skipped → bytes ≡ heads_bytes skipped ++ rest → NoneAt 16384 skipped rest
    → (code : ℕ) → ¬ (HasStatus bytes code)
no_status bytes rest skipped are is none code (others, final, tail, reply, same) =
    no_reply 16384 skipped rest are none others final tail reply.skipped_are reply.final_is (sym is ∙ reply.bytes_are) reply.short

-- the bytes that are looked at, and those after them
all_split : (bytes rest more : List ℕ) (last : Option ℕ) (skipped : List ResponseHead) → Skipped bytes rest last skipped
    → bytes ++ more ≡ heads_bytes skipped ++ (rest ++ (drop 16384 bytes ++ more))
all_split bytes rest more last skipped so =
    ap (λ b. b ++ more) (sym (take-append-drop 16384 bytes)) ∙ append_assoc (take 16384 bytes) (drop 16384 bytes) more
    ∙ ap (λ b. b ++ (drop 16384 bytes ++ more)) so.split ∙ append_assoc (heads_bytes skipped) rest (drop 16384 bytes ++ more)

pub begin : (bytes : List ℕ) → Skipped bytes (take 16384 bytes) None []
begin bytes = record { are = All-nil IsInterim; last_is = refl; split = refl }

last_code-push : (heads : List ResponseHead) (h : ResponseHead) → last_code (heads ++ h ∷ []) ≡ Some (status_code h)
last_code-push [] h = refl
last_code-push (k ∷ []) h = refl
last_code-push (k ∷ l ∷ heads) h = last_code-push (l ∷ heads) h

heads_bytes-push : (heads : List ResponseHead) (h : ResponseHead) → heads_bytes (heads ++ h ∷ []) ≡ heads_bytes heads ++ print_response h
heads_bytes-push heads h = flat_map-append print_response heads (h ∷ []) ∙ ap (λ b. heads_bytes heads ++ b) (append-nil (print_response h))

-- one more interim head
pub skip : (bytes rest after : List ℕ) (last : Option ℕ) (skipped : List ResponseHead) (code : ℕ) (h : ResponseHead) → Skipped bytes rest last skipped
    → IsHeadAt rest code after h → is_interim code ≡ true → Skipped bytes after (Some code) (skipped ++ h ∷ [])
skip bytes rest after last skipped code h so at interim = record {
  are = All-push IsInterim skipped h so.are (at.head, ap is_interim (sym at.code_is) ∙ interim);
  last_is = ap Some at.code_is ∙ sym (last_code-push skipped h);
  split = so.split ∙ ap (λ b. heads_bytes skipped ++ b) at.bytes_are ∙ sym (append_assoc (heads_bytes skipped) (print_response h) after)
      ∙ ap (λ b. b ++ after) (sym (heads_bytes-push skipped h));
}

nonempty : (h : ResponseHead) → 0 < length (print_response h)
unfolding print_response
nonempty h = grind (arith, length-append)

-- each head takes at least a byte
pub shorter : (rest after : List ℕ) (code : ℕ) (h : ResponseHead) → IsHeadAt rest code after h → length after < length rest
shorter rest after code h at = omega (arith, ap length at.bytes_are, length-append (print_response h) after, nonempty h)

-- a final head
pub whole : (bytes rest after : List ℕ) (last : Option ℕ) (skipped : List ResponseHead) (code : ℕ) (h : ResponseHead) → Skipped bytes rest last skipped
    → IsHeadAt rest code after h → is_interim code ≡ false → HasStatus bytes code
whole bytes rest after last skipped code h so at ends =
    let beyond = drop 16384 bytes ++ [] in
    let size = ap length so.split ∙ length-append (heads_bytes skipped) rest in
    let inner = ap length at.bytes_are ∙ length-append (print_response h) after in (
      skipped,
      h,
      after ++ beyond,
      record {
        skipped_are = so.are;
        final_is = (at.head, ap is_interim (sym at.code_is) ∙ ends);
        bytes_are = sym (append-nil bytes) ∙ all_split bytes rest [] last skipped so
            ∙ ap (λ b. heads_bytes skipped ++ (b ++ beyond)) at.bytes_are
            ∙ ap (λ b. heads_bytes skipped ++ b) (append_assoc (print_response h) after beyond);
        short = omega (arith, size, inner, length-take 16384 bytes);
      },
      at.code_is,
    )

pub not_yet : (bytes rest : List ℕ) (last : Option ℕ) (skipped : List ResponseHead) → Skipped bytes rest last skipped → length bytes < 16384
    → HasNoResponse rest → MayBecomeResponse rest → IsNotYet bytes last
not_yet bytes rest last skipped so short none may =
    let is = sym (take_all 16384 bytes (omega (arith, short))) ∙ so.split in (
      no_status bytes rest skipped so.are is (λ h r head reads fits. none h r (head.valid, reads)),
      skipped,
      rest,
      record { skipped_are = so.are; last_is = so.last_is; bytes_are = is; none = none; may = may; short = short },
    )

-- a front of the rest and more that fits into the rest is a front of the rest
fits_in : (rest more p r : List ℕ) → rest ++ more ≡ p ++ r → length p ≤ length rest → rest ≡ p ++ drop (length p) rest
fits_in rest more p r same fits =
    let front : take (length p) rest ≡ p = sym (take-append-le (length p) rest more fits) ∙ ap (take (length p)) same ∙ take_at p r (length p) refl in
    sym (take-append-drop (length p) rest) ∙ ap (λ b. b ++ drop (length p) rest) front

pub too_long : (bytes rest : List ℕ) (last : Option ℕ) (skipped : List ResponseHead) → Skipped bytes rest last skipped → 16384 ≤ length bytes
    → HasNoResponse rest → HasNever bytes
too_long bytes rest last skipped so long none more =
    let size = ap length so.split ∙ length-append (heads_bytes skipped) rest in
    no_status (bytes ++ more) _ skipped so.are (all_split bytes rest more last skipped so)
    (λ h r head reads fits. none h (drop (length (print_response h)) rest)
    (head.valid, fits_in rest _ (print_response h) r reads (omega (arith, size, length-take 16384 bytes, fits, long))))

pub malformed : (bytes rest : List ℕ) (last : Option ℕ) (skipped : List ResponseHead) → Skipped bytes rest last skipped
    → FindsHead rest front.Never → HasNever bytes
malformed bytes rest last skipped so bad more =
    no_status (bytes ++ more) _ skipped so.are (all_split bytes rest more last skipped so)
    (λ h r head reads fits. bad (drop 16384 bytes ++ more) h r head reads)
