-- The text of a moment is UTF-8: `iso_utf8`.
use Rattle.std.proofs.Common.{◌≡◌, ℕ, ◌+◌, ◌/◌, ◌%◌, ◌<◌, true, List, [], ◌∷◌, ◌++◌, sym, subst, arith, codes}
use Rattle.std.specs.Char.{is_ascii_digit}
use Rattle.std.specs.List.{list_all}
use Rattle.std.specs.Str.{IsUtf8}
use Rattle.std.proofs.lemmas.Bool.{and_parts}
use Rattle.std.proofs.lemmas.Bool.Decides.{nat_tests}
use Rattle.std.proofs.lemmas.Str.{IsUtf8-append, IsUtf8-nil, IsUtf8-from_ascii}
use Rattle.std.proofs.lemmas.List.Elements.{All-cons, All-nil}
use Rattle.std.proofs.lemmas.Str.Ascii.{IsAscii-from_all}
use Rattle.jiff_fmt.specs.Text.{pad2}
use Rattle.event_time.specs.declared.time.Digits.{Digits}
use Rattle.event_time.specs.Time.{IsIso, IsTimeSecfrac}
use Rattle.event_time.specs.Clock.{AreSmall, IsTail, digits_text}
use Rattle.event_time.proofs.ClockLemmas.{text_shows, iso_is_time}

ascii_cons : (c : ℕ) (bs : List ℕ) → c < 128 → IsUtf8 bs → IsUtf8 (c ∷ bs)
ascii_cons c bs h u =
    let all = All-cons (λ b. b < 128) c [] h (All-nil (λ b. b < 128)) in
    IsUtf8-append (c ∷ []) bs (IsUtf8-from_ascii (c ∷ []) (IsAscii-from_all (c ∷ []) all)) u

digit_small : (b : ℕ) → is_ascii_digit b ≡ true → b < 128
digit_small b h = grind (arith, nat_tests)

places_utf8 : (bs : List ℕ) → list_all is_ascii_digit bs ≡ true → IsUtf8 bs
places_utf8 [] h = IsUtf8-nil
places_utf8 (b ∷ bs) h = let p = and_parts (is_ascii_digit b) (list_all is_ascii_digit bs) h in ascii_cons b bs (digit_small b p.0) (places_utf8 bs p.1)

fraction_utf8 : (bs : List ℕ) → IsTimeSecfrac bs → IsUtf8 bs
fraction_utf8 [] h = IsUtf8-nil
fraction_utf8 (b ∷ bs) (dot, (some, digits)) = ascii_cons b bs (omega (arith, dot)) (places_utf8 bs digits)

pad2_utf8 : (n : ℕ) (rest : List ℕ) → n < 100 → IsUtf8 rest → IsUtf8 (pad2 n ++ rest)
pad2_utf8 n rest h u = ascii_cons (48 + n / 10) _ (omega arith) (ascii_cons (48 + n % 10) rest (omega arith) u)

marked_utf8 : (mark n : ℕ) (rest : List ℕ) → mark < 128 → n < 100 → IsUtf8 rest → IsUtf8 (mark ∷ (pad2 n ++ rest))
marked_utf8 mark n rest h k u = ascii_cons mark _ h (pad2_utf8 n rest k u)

digits_utf8 : (d : Digits) (rest : List ℕ) → AreSmall d → IsUtf8 rest → IsUtf8 (digits_text d rest)
digits_utf8 d rest s u =
    pad2_utf8 (d.year / 100) _ (omega (arith, s.year)) (pad2_utf8 (d.year % 100) _ (omega arith)
    (marked_utf8 45 d.month _ (omega arith) s.month (marked_utf8 45 d.day _ (omega arith) s.day
    (marked_utf8 84 d.hour _ (omega arith) s.hour (marked_utf8 58 d.minute _ (omega arith) s.minute (marked_utf8 58 d.second rest (omega arith) s.second u))))))

tail_utf8 : (rest : List ℕ) → IsTail rest → IsUtf8 rest
tail_utf8 rest tail = subst IsUtf8 (sym tail.2) (IsUtf8-append tail.0 (codes "Z") (fraction_utf8 tail.0 tail.1) (ascii_cons 90 [] (omega arith) IsUtf8-nil))

pub iso_utf8 : (m : ℕ) (t : List ℕ) → IsIso m t → IsUtf8 t
iso_utf8 m t is =
    let s = text_shows t m (iso_is_time t m is) in
    subst IsUtf8 (sym s.2.written) (digits_utf8 s.0 s.1 s.2.small (tail_utf8 s.1 s.3))
