-- Each second from 1970 on has a text: `iso_of`. Dates are counted from 1970-01-01 on, one after the other.
use Rattle.std.proofs.Common.{◌≡◌, ℕ, zero, suc, ◌+◌, ◌/◌, ◌%◌, ◌<◌, ◌≤◌, inl, inr, List, ◌++◌, codes, sym, refl, ap, ◌∙◌, subst, arith, ℤ, pos, ◌+ℤ◌}
use Rattle.std.proofs.lemmas.Bool.{cases_order}
use Rattle.jiff_core.specs.declared.civil.date.Date.{Date}
use Rattle.jiff_core.specs.declared.civil.time.Time.{Time}
use Rattle.jiff_core.specs.declared.civil.datetime.DateTime.{DateTime}
use Rattle.jiff_core.specs.Calendar.{days_from_civil, days_in_month}
use Rattle.jiff_core.specs.Date.{epoch_day}
use Rattle.jiff_core.specs.DateTime.{civil_seconds}
use Rattle.jiff_core.specs.Time.{time_seconds}
use Rattle.jiff_core.proofs.SignedLemmas.{signed_arith}
use Rattle.jiff_core.proofs.CalendarLemmas.{days_in_month_bounds}
use Rattle.jiff_core.proofs.DateLemmas.{days_from_civil-day, days_from_civil-next_month, days_from_civil-next_year, days_from_civil-max}
use Rattle.jiff_core.proofs.StandardFacts.{known_days}
use Rattle.jiff.specs.Words.{iso_datetime_text}
use Rattle.event_time.specs.Time.{IsSecond, Shows, IsIso}

-- a date with this day number
abbrev IsDay : ℕ → Type 0
IsDay n = (d : Date) × (epoch_day d ≡ pos n)

-- a day later in the month
next_day : (d : Date) (n : ℕ) → epoch_day d ≡ pos n → d.day < days_in_month d.year d.month → IsDay (n + 1)
next_day d n is more =
    let e : Date = record d { day = d.day + 1; day_in = (omega arith, omega (arith, more)) } in
    let later : days_from_civil d.year d.month d.day +ℤ pos (d.day + 1) ≡ days_from_civil d.year d.month (d.day + 1) +ℤ pos d.day =
    days_from_civil-day d.year d.month d.day (d.day + 1) d.day_in.0 (omega arith) in
    let same : days_from_civil d.year d.month (d.day + 1) ≡ pos (n + 1) = omega (arith, signed_arith, later, is) in
    (e, same)

-- the first of the next month
next_month : (d : Date) (n : ℕ) → epoch_day d ≡ pos n → d.day ≡ days_in_month d.year d.month → d.month < 12 → IsDay (n + 1)
next_month d n is last more =
    let e : Date = record {
      year = d.year;
      month = d.month + 1;
      day = 1;
      year_in = d.year_in;
      month_in = (omega arith, omega (arith, more));
      day_in = (omega arith, omega (arith, (days_in_month_bounds d.year (d.month + 1)).1));
    } in
    let later : days_from_civil d.year (d.month + 1) 1 ≡ days_from_civil d.year d.month d.day +ℤ pos 1 =
    days_from_civil-next_month d.year d.month d.day d.month_in.0 last in
    let same : days_from_civil d.year (d.month + 1) 1 ≡ pos (n + 1) = omega (arith, signed_arith, later, is) in
    (e, same)

-- 1 January of the next year
next_year : (d : Date) (n : ℕ) → epoch_day d ≡ pos n → n < 2_932_896 → d.day ≡ days_in_month d.year d.month → d.month ≡ 12 → IsDay (n + 1)
next_year d n is below last end =
    let on : d.day ≡ 31 = last ∙ ap (days_in_month d.year) end in
    let this : days_from_civil d.year 12 31 ≡ pos n = ap (λ (k : ℕ). days_from_civil d.year 12 k) (sym on) ∙ ap (λ (m : ℕ). days_from_civil d.year m d.day) (sym end) ∙ is in
    let apart : ¬ (d.year ≡ pos 9999) = λ e.
    (let same : pos n ≡ pos 2_932_896 = sym this ∙ ap (λ (y : ℤ). days_from_civil y 12 31) e ∙ days_from_civil-max in omega (arith, signed_arith, same, below)) in
    let next = d.year +ℤ pos 1 in
    let later : days_from_civil next 1 1 ≡ days_from_civil d.year 12 31 +ℤ pos 1 =
    days_from_civil-next_year d.year next (omega (arith, signed_arith, d.year_in)) refl in
    let e : Date = record {
      year = next;
      month = 1;
      day = 1;
      year_in = (omega (arith, signed_arith, d.year_in), omega (arith, signed_arith, d.year_in, apart));
      month_in = (omega arith, omega arith);
      day_in = (omega arith, omega arith);
    } in
    let same : days_from_civil next 1 1 ≡ pos (n + 1) = omega (arith, signed_arith, later, this) in
    (e, same)

-- the date after one that is not the last
day_after : (d : Date) (n : ℕ) → epoch_day d ≡ pos n → n < 2_932_896 → IsDay (n + 1)
day_after d n is below =
    elim (cases_order d.day (days_in_month d.year d.month)) [
      | inr (inl more) ↦ next_day d n is more
      | inl last ↦ elim (cases_order d.month 12) [
        | inr (inl more) ↦ next_month d n is last more
        | inl end ↦ next_year d n is below last end
        | inr (inr over) ↦ absurd (omega (arith, over, d.month_in.1))
      ]
      | inr (inr over) ↦ absurd (omega (arith, over, d.day_in.1))
    ]

first_day : IsDay 0
first_day =
    let d : Date = record {
      year = pos 1970;
      month = 1;
      day = 1;
      year_in = (omega (arith, signed_arith), omega (arith, signed_arith));
      month_in = (omega arith, omega arith);
      day_in = (omega arith, omega arith);
    } in
    (d, known_days.0)

day_of : (n : ℕ) → n ≤ 2_932_896 → IsDay n
day_of zero fits = first_day
day_of (suc n) fits =
    let (d, is) = day_of n (omega (arith, fits)) in
    let next : n + 1 ≡ suc n = omega arith in
    subst IsDay next (day_after d n is (omega (arith, fits)))

seconds_of : (civil : DateTime) (n : ℕ) → epoch_day civil.date ≡ pos (n / 86400) → time_seconds civil.time ≡ n % 86400 → civil_seconds civil ≡ pos n
unfolding civil_seconds
seconds_of civil n day rest = omega (arith, signed_arith, day, rest)

pub iso_of : (n : ℕ) → IsSecond n → (t : List ℕ) × IsIso n t
iso_of n fits =
    let (date, is) = day_of (n / 86400) (omega (arith, fits)) in
    let rest = n % 86400 in
    let time : Time = record {
      hour = rest / 3600;
      minute = rest % 3600 / 60;
      second = rest % 60;
      subsec_nanosecond = 0;
      hour_in = omega arith;
      minute_in = omega arith;
      second_in = omega arith;
      subsec_in = omega arith;
    } in
    let civil : DateTime = record { date = date; time = time } in
    let shows : Shows n civil = record { seconds = seconds_of civil n is (omega arith); whole = refl } in
    (iso_datetime_text civil ++ codes "Z", (civil, shows, refl))
