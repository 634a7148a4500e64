-- Parts of a time text. No public clause names these.
use Rattle.std.specs.Prelude.{◌≡◌, ◌<◌, ℕ, pos, List, ◌∷◌, ◌++◌, codes}
use Rattle.jiff_core.specs.declared.civil.datetime.DateTime.{DateTime}
use Rattle.jiff_fmt.specs.Text.{pad2, pad4}
use Rattle.event_time.specs.declared.time.Digits.{Digits}
use Rattle.event_time.specs.Time.{Shows, IsTimeSecfrac}

-- `YYYY-MM-DDTHH:MM:SS`
abbrev pub digits_text : Digits → List ℕ → List ℕ
digits_text d rest =
    pad4 d.year ++ 45 ∷ (pad2 d.month ++ 45 ∷ (pad2 d.day ++ 84 ∷ (pad2 d.hour ++ 58 ∷ (pad2 d.minute ++ 58 ∷ (pad2 d.second ++ rest)))))

-- the year has four digits, and the others have two
pub record AreSmall (d : Digits) : Type 0 where
  pub year : d.year < 10000
  pub month : d.month < 100
  pub day : d.day < 100
  pub hour : d.hour < 100
  pub minute : d.minute < 100
  pub second : d.second < 100

-- the text is these digits, each in its places, and the rest
pub record Writes (t : List ℕ) (d : Digits) (rest : List ℕ) : Type 0 where
  pub small : AreSmall d
  pub written : t ≡ digits_text d rest

-- an optional fraction and `Z`
abbrev pub IsTail : List ℕ → Type 0
IsTail rest = (fraction : List ℕ) × IsTimeSecfrac fraction × (rest ≡ fraction ++ codes "Z")

-- the date and the clock have these digits
pub record HasDigits (civil : DateTime) (d : Digits) : Type 0 where
  pub year : civil.date.year ≡ pos d.year
  pub month : civil.date.month ≡ d.month
  pub day : civil.date.day ≡ d.day
  pub hour : civil.time.hour ≡ d.hour
  pub minute : civil.time.minute ≡ d.minute
  pub second : civil.time.second ≡ d.second

-- a real date and clock with these digits is `n` seconds after 1970
abbrev pub ShowsDigits : Digits → ℕ → Type 0
ShowsDigits d n = (civil : DateTime) × Shows n civil × HasDigits civil d
