-- Archives of consistent tables keep few events: `count_small`.
use Rattle.std.proofs.Common.{ℕ, ◌*◌, ◌^◌, ◌<◌, ◌≤◌, List, [], ◌∷◌, length, ap, arith, mul-le-mul_right, suc-mul}
use Rattle.std.specs.Prelude.{All}
use Rattle.std.proofs.lemmas.List.{length-map}
use Rattle.std.proofs.lemmas.List.Sums.{sum_by-cons}
use Rattle.std.proofs.lemmas.List.Elements.{All-head, All-tail}
use Rattle.archive_keep.specs.Archive.{Archive}
use Rattle.archive_keep.specs.Archives.{event_count, name_of}
use Rattle.rule_table.specs.RuleSet.{Archive as Row}
use Rattle.rule_table.specs.Sound.{IsSound}
use Rattle.router_core.specs.Tables.{Tables, KeepsUpTo, IsConsistent}

count_by : (events moment : ℕ) (rows : List Archive) → All (KeepsUpTo events moment) rows → event_count rows ≤ length rows * events
count_by events moment [] all = omega arith
count_by events moment (a ∷ rows) all =
    let first = All-head (KeepsUpTo events moment) a rows all in
    let others = count_by events moment rows (All-tail (KeepsUpTo events moment) a rows all) in
    omega (arith, sum_by-cons (λ (a : Archive). length a.events) a rows, first.few, others, suc-mul (length rows) events)

few_archives : (t : Tables) → IsConsistent t → IsSound t.set → length t.archives ≤ 100
few_archives t h sound =
    omega (
      arith,
      ap (length {A = List ℕ}) h.archives,
      length-map t.archives name_of,
      length-map t.set.archives (λ (row : Row). row.name),
      sound.archives.few,
    )

pub count_small : (t : Tables) → IsConsistent t → IsSound t.set → event_count t.archives < 2 ^ 64
count_small t h sound =
    let product : length t.archives * t.events ≤ 100 * t.events = mul-le-mul_right t.events (few_archives t h sound) in
    omega (arith, count_by t.events t.moment t.archives h.kept, product, h.events, h.entries)
