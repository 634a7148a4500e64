-- Texts of RFC 3339's profile in UTC, by the civil date and clock that `jiff` has.
use Rattle.std.specs.Prelude.{◌≡◌, ◌<◌, ◌≤◌, ℕ, pos, true, List, [], ◌∷◌, ◌++◌, codes, length}
use Rattle.std.specs.Char.{is_ascii_digit}
use Rattle.std.specs.List.{list_all}
use Rattle.jiff_core.specs.declared.civil.datetime.DateTime.{DateTime}
use Rattle.jiff.specs.Words.{civil_seconds, iso_datetime_text}

-- Whole seconds since 1970-01-01T00:00:00Z, at most 253,402,207,200: the last whole second that `jiff` has as an instant,
-- 9999-12-30T22:00:00Z.
-- Shown by: event_tests test_event_time.rt: civil_dates_are_their_seconds.
abbrev pub IsSecond : ℕ → Type 0
IsSecond n = n ≤ 253402207200

-- The date and the clock in UTC that are this number of whole seconds after 1970-01-01T00:00:00Z.
-- Shown by: event_tests test_event_time.rt: civil_dates_are_their_seconds.
pub record Shows (moment : ℕ) (civil : DateTime) : Type 0 where
  pub seconds : civil_seconds civil ≡ pos moment
  pub whole : civil.time.subsec_nanosecond ≡ 0

-- 1*DIGIT
abbrev pub IsDigits : List ℕ → Type 0
IsDigits bytes = (0 < length bytes) × (list_all is_ascii_digit bytes ≡ true)

-- A fraction of a second: nothing, or a point and at least one digit (time-secfrac of RFC 3339, section 5.6).
-- Shown by: event_tests test_event_time.rt: a_text_shows_its_second_or_none.
abbrev pub IsTimeSecfrac : List ℕ → Type 0
IsTimeSecfrac [] = Unit {0}
IsTimeSecfrac (b ∷ bs) = (b ≡ 46) × IsDigits bs

-- The text `YYYY-MM-DDTHH:MM:SSZ` of this second: date-time of RFC 3339, section 5.6, without a fraction, `T` and `Z` in upper case.
-- Shown by: event_tests test_event_time.rt: civil_dates_are_their_seconds.
abbrev pub IsIso : ℕ → List ℕ → Type 0
IsIso moment t = (civil : DateTime) × Shows moment civil × (t ≡ iso_datetime_text civil ++ codes "Z")

-- The text `YYYY-MM-DDTHH:MM:SSZ` of a second, with an optional fraction, which is dropped. `2023-11-14T22:13:20.75Z` shows 1700000000,
-- `9999-12-31T23:59:59Z` shows 253402300799, and a second 60 shows none.
-- Shown by: event_tests test_event_time.rt: a_text_shows_its_second_or_none.
abbrev pub IsTimeText : List ℕ → ℕ → Type 0
IsTimeText t moment = (civil : DateTime) × (fraction : List ℕ) × Shows moment civil × IsTimeSecfrac fraction
    × (t ≡ iso_datetime_text civil ++ (fraction ++ codes "Z"))
