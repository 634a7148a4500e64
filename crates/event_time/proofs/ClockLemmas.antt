-- Digits in their places: `writes_once`; a date and a clock by their digits: `civil_text`, `seconds_same`, `text_writes`, `digits_shown`.
use Rattle.std.proofs.Common.{◌≡◌, ℕ, ◌+◌, ◌/◌, ◌%◌, ◌<◌, inl, ◌↔◌, ℤ, pos, negsuc, ◌<ℤ◌, ◌*ℤ◌, List, [], ◌∷◌, ◌++◌, sym, ap, ◌∙◌, subst}
use Rattle.std.proofs.Common.{refl, arith, codes, rules}
use Rattle.jiff_core.specs.declared.civil.date.Date.{Date}
use Rattle.jiff_core.specs.declared.civil.datetime.DateTime.{DateTime}
use Rattle.jiff_core.specs.Calendar.{days_from_civil}
use Rattle.jiff_core.specs.Date.{epoch_day}
use Rattle.jiff_core.specs.DateTime.{civil_seconds, civil_nanos}
use Rattle.jiff_core.proofs.DateTimeLemmas.{civil_nanos-civil_seconds, civil_nanos_injective, time_nanos_injective}
use Rattle.jiff_core.proofs.SignedLemmas.{signed_arith}
use Rattle.jiff_core.proofs.CalendarLemmas.{days_in_month_bounds}
use Rattle.jiff_core.proofs.DateLemmas.{epoch_day-lt, epoch_day_injective}
use Rattle.jiff.specs.Words.{iso_datetime_text}
use Rattle.jiff_fmt.specs.Text.{pad2, pad4}
use Rattle.event_time.specs.declared.time.Digits.{Digits}
use Rattle.event_time.specs.Time.{Shows, IsTimeText, IsIso}
use Rattle.event_time.specs.Clock.{AreSmall, Writes, IsTail, HasDigits, ShowsDigits, digits_text}

pub pad2_cut : (n m : ℕ) (xs ys : List ℕ) → n < 100 → m < 100 → pad2 n ++ xs ≡ pad2 m ++ ys → (n ≡ m) × (xs ≡ ys)
pad2_cut n m xs ys a b e =
    let tens : 48 + n / 10 ≡ 48 + m / 10 = cc in
    let units : 48 + n % 10 ≡ 48 + m % 10 = cc in
    (omega arith, cc)

pub pad4_cut : (n m : ℕ) (xs ys : List ℕ) → n < 10000 → m < 10000 → pad4 n ++ xs ≡ pad4 m ++ ys → (n ≡ m) × (xs ≡ ys)
pad4_cut n m xs ys a b e =
    let high = pad2_cut (n / 100) (m / 100) (pad2 (n % 100) ++ xs) (pad2 (m % 100) ++ ys) (omega arith) (omega arith) e in
    let low = pad2_cut (n % 100) (m % 100) xs ys (omega arith) (omega arith) high.1 in
    (omega (arith, high.0, low.0), low.1)

marked_cut : (mark n m : ℕ) (xs ys : List ℕ) → n < 100 → m < 100 → mark ∷ (pad2 n ++ xs) ≡ mark ∷ (pad2 m ++ ys) → (n ≡ m) × (xs ≡ ys)
marked_cut mark n m xs ys a b e = let tails : pad2 n ++ xs ≡ pad2 m ++ ys = cc in pad2_cut n m xs ys a b tails

pub record SameDigits (d e : Digits) : Type 0 where
  pub year : d.year ≡ e.year
  pub month : d.month ≡ e.month
  pub day : d.day ≡ e.day
  pub hour : d.hour ≡ e.hour
  pub minute : d.minute ≡ e.minute
  pub second : d.second ≡ e.second

-- a text has one set of digits and one rest
pub writes_once : (t : List ℕ) (d e : Digits) (xs ys : List ℕ) → Writes t d xs → Writes t e ys → SameDigits d e × (xs ≡ ys)
writes_once t d e xs ys p q =
    let year = pad4_cut d.year e.year _ _ p.small.year q.small.year (sym p.written ∙ q.written) in
    let month = marked_cut 45 d.month e.month _ _ p.small.month q.small.month year.1 in
    let day = marked_cut 45 d.day e.day _ _ p.small.day q.small.day month.1 in
    let hour = marked_cut 84 d.hour e.hour _ _ p.small.hour q.small.hour day.1 in
    let minute = marked_cut 58 d.minute e.minute _ _ p.small.minute q.small.minute hour.1 in
    let second = marked_cut 58 d.second e.second xs ys p.small.second q.small.second minute.1 in
    (record { year = year.0; month = month.0; day = day.0; hour = hour.0; minute = minute.0; second = second.0 }, second.1)

pub digits_moved : (civil : DateTime) (d e : Digits) → SameDigits d e → HasDigits civil e → HasDigits civil d
digits_moved civil d e s h = record {
  year = h.year ∙ ap pos (sym s.year);
  month = h.month ∙ sym s.month;
  day = h.day ∙ sym s.day;
  hour = h.hour ∙ sym s.hour;
  minute = h.minute ∙ sym s.minute;
  second = h.second ∙ sym s.second;
}

-- what `jiff` writes of a date and a clock without a fraction are their digits
pub civil_text : (civil : DateTime) (d : Digits) (rest : List ℕ) → HasDigits civil d → civil.time.subsec_nanosecond ≡ 0
    → iso_datetime_text civil ++ rest ≡ digits_text d rest
civil_text civil d rest h whole = rw (h.year, h.month, h.day, h.hour, h.minute, h.second, whole) refl

pub seconds_same : (a b : DateTime) (d : Digits) → HasDigits a d → HasDigits b d → civil_seconds a ≡ civil_seconds b
unfolding civil_seconds
seconds_same a b d h k = rw (h.year, h.month, h.day, h.hour, h.minute, h.second, k.year, k.month, k.day, k.hour, k.minute, k.second) refl

-- 1970-01-01
first_day : Date
first_day = record { year = pos 1970; month = 1; day = 1; year_in = search rules; month_in = search rules; day_in = search rules }

first_day_zero : epoch_day first_day ≡ pos 0
unfolding first_day days_from_civil
first_day_zero = omega (arith, signed_arith)

-- no moment lies before 1970, so its year is written without a sign
before_none : (civil : DateTime) (n : ℕ) → civil_seconds civil ≡ pos n → ¬ (civil.date.year <ℤ pos 1970)
unfolding civil_seconds first_day
before_none civil n e early =
    let below = epoch_day-lt civil.date first_day (inl early) in
    let first = first_day_zero in
    omega (arith, signed_arith)

year_of_moment : (civil : DateTime) (n : ℕ) → civil_seconds civil ≡ pos n → (y : ℕ) × (civil.date.year ≡ pos y) × (y < 10000)
year_of_moment civil n e = by_sign civil.date.year refl
  where
    by_sign : (z : ℤ) → civil.date.year ≡ z → (y : ℕ) × (civil.date.year ≡ pos y) × (y < 10000)
    by_sign (pos y) is = (y, is, omega (arith, signed_arith, is, civil.date.year_in.1))
    by_sign (negsuc y) is = absurd (before_none civil n e (omega (arith, signed_arith, is)))

-- digits of a real date and clock, with a tail behind them, are a text of a time
pub shows_text : (t : List ℕ) (d : Digits) (rest : List ℕ) (n : ℕ) → Writes t d rest → IsTail rest → ShowsDigits d n → IsTimeText t n
shows_text t d rest n w tail shown =
    (shown.0, tail.0, shown.1, tail.1, w.written ∙ ap (digits_text d) tail.2 ∙ sym (civil_text shown.0 d (tail.0 ++ codes "Z") shown.2 shown.1.whole))

small_day : (civil : DateTime) → civil.date.day < 100
small_day civil = omega (arith, civil.date.day_in.1, (days_in_month_bounds civil.date.year civil.date.month).0)

-- and each text of a time is so
pub text_shows : (t : List ℕ) (n : ℕ) → IsTimeText t n → (d : Digits) × (rest : List ℕ) × Writes t d rest × IsTail rest × ShowsDigits d n
text_shows t n (civil, fraction, shows, is, written) =
    let y = year_of_moment civil n shows.seconds in
    let d : Digits = record {
      year = y.0;
      month = civil.date.month;
      day = civil.date.day;
      hour = civil.time.hour;
      minute = civil.time.minute;
      second = civil.time.second;
    } in
    let has : HasDigits civil d = record { year = y.1; month = refl; day = refl; hour = refl; minute = refl; second = refl } in
    let small : AreSmall d = record {
      year = y.2;
      month = omega (arith, civil.date.month_in.1);
      day = small_day civil;
      hour = omega (arith, civil.time.hour_in);
      minute = omega (arith, civil.time.minute_in);
      second = omega (arith, civil.time.second_in);
    } in
    let same = written ∙ civil_text civil d (fraction ++ codes "Z") has shows.whole in
    let writes : Writes t d (fraction ++ codes "Z") = record { small = small; written = same } in
    (d, fraction ++ codes "Z", writes, (fraction, is, refl), (civil, shows, has))

-- a text is the time of one moment
pub time_once : (t : List ℕ) (n m : ℕ) → IsTimeText t n → IsTimeText t m → n ≡ m
time_once t n m p q =
    let a = text_shows t n p in
    let b = text_shows t m q in
    let once = writes_once t a.0 b.0 a.1 b.1 a.2 b.2 in
    let same = seconds_same a.4.0 b.4.0 a.0 a.4.2 (digits_moved b.4.0 a.0 b.0 once.0 b.4.2) in
    let moments : pos n ≡ pos m = sym a.4.1.seconds ∙ same ∙ b.4.1.seconds in
    omega (arith, signed_arith, moments)

pub iso_is_time : (t : List ℕ) (n : ℕ) → IsIso n t → IsTimeText t n
iso_is_time t n (civil, shows, written) = (civil, [], shows, tt, written)

-- and a moment has one text
pub iso_once : (n : ℕ) (t u : List ℕ) → IsIso n t → IsIso n u → t ≡ u
iso_once n t u p q =
    let same : civil_nanos p.0 ≡ civil_nanos q.0 =
    omega (arith, signed_arith, civil_nanos-civil_seconds p.0, civil_nanos-civil_seconds q.0, p.1.seconds, q.1.seconds, p.1.whole, q.1.whole) in
    let parts = civil_nanos_injective p.0 q.0 same in
    let date = epoch_day_injective p.0.date q.0.date parts.0 in
    let time = time_nanos_injective p.0.time q.0.time parts.1 in
    let texts : iso_datetime_text p.0 ≡ iso_datetime_text q.0 = rw (date.0, date.1, date.2, time.0, time.1, time.2, time.3) refl in
    p.2 ∙ ap (λ x. x ++ codes "Z") texts ∙ sym q.2

pub iso_inverse : (t : List ℕ) (m : ℕ) → IsIso m t → (n : ℕ) → IsTimeText t n ↔ (n ≡ m)
iso_inverse t m is n = (
  λ p. time_once t n m p (iso_is_time t m is),
  λ e. subst (IsTimeText t) (sym e) (iso_is_time t m is),
)

-- the clock of a moment
pub clock_shows : (civil : DateTime) (n : ℕ) → civil_nanos civil ≡ pos n *ℤ pos 1_000_000_000 → Shows n civil
clock_shows civil n e =
    let parts = civil_nanos-civil_seconds civil in
    let below = civil.time.subsec_in in
    record { seconds = omega (arith, signed_arith, parts, e, below); whole = omega (arith, signed_arith, parts, e, below) }
