-- Times: a moment as a text of RFC 3339's profile in UTC, or as a number.
use Rattle.std.specs.Prelude.{◌≡◌, ℕ, ◌⊎◌, List, ◌∷◌, ◌++◌, decimal}
use Rattle.json_text.specs.Moment.{IsMoment}
use Rattle.json_text.specs.Number.{IsFraction}
use Rattle.json_text.specs.Tree.{Tree, null, truth, number, text, list, object}
use Rattle.event_time.specs.Time.{IsTimeText}

-- A number without an exponent (RFC 8259, section 6) gives its whole part; the fraction is dropped. A number below 0 gives none, but `-0`
-- and `-0.5` give 0.
-- Shown by: event_tests test_event_shape.rt: a_time_gives_its_moment_or_none.
abbrev pub IsTimeNumber : List ℕ → ℕ → Type 0
IsTimeNumber spelling moment = (fraction : List ℕ) × IsFraction fraction
    × ((spelling ≡ decimal moment ++ fraction) ⊎ ((moment ≡ 0) × (spelling ≡ 45 ∷ (decimal 0 ++ fraction))))

-- A JSON value gives this moment: a number by `IsTimeNumber`, or a text that event_time's `IsTimeText` reads, within `IsMoment`.
-- `1700000000.9` gives 1700000000; `-1`, `1.7e9` and `250000000001` give none.
-- Shown by: event_tests test_event_shape.rt: a_time_gives_its_moment_or_none.
abbrev pub IsTime : Tree → ℕ → Type 0
IsTime null moment = ⊥
IsTime (truth b) moment = ⊥
IsTime (number spelling) moment = IsMoment moment × IsTimeNumber spelling moment
IsTime (text t) moment = IsMoment moment × IsTimeText t moment
IsTime (list inside) moment = ⊥
IsTime (object inside) moment = ⊥
