use Rattle.std.proofs.Common.{◌≡◌, ◌+◌, ◌∷◌, ap, length, arith, length-append, length-drop}
use Rattle.record_file.specs.Records.{records}
use Rattle.record_file.proofs.ScanLemmas.{damaged, records_long}
use Rattle.record_file.proofs.scan.Scan.place.Goals as goal

pub returns-clause-at : goal.returns-clause-at
returns-clause-at c = λ file scan.
    let s = c.args.self.now in
    let low = records_long s.found in
    let end = ap (λ m. length m) scan.has.is in
    let counted : c.saturating_add-record.result ≡ length s.found + 1 =
    omega (
      arith,
      c.saturating_add-record.ensures,
      scan.count,
      low,
      end,
      scan.short,
      length-drop s.first file,
      length-append (records s.found) (scan.gate ∷ scan.rest),
    ) in (counted, scan.place)

pub returns-clause-damaged : goal.returns-clause-damaged
returns-clause-damaged c = λ file scan next.
    let s = c.args.self.now in
    let at = returns-clause-at c file scan in
    damaged file s.first s.found c.saturating_add-record.result s.place scan.long scan.begins at.0 scan.place next
