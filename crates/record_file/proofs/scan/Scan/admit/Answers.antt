use Rattle.std.proofs.Common.{◌≡◌, ℕ, List, ◌+◌, ◌∷◌, [], ◌++◌, ap, sym, subst, ◌∙◌, length, arith, length-append, length-drop}
use Rattle.std.proofs.lemmas.List.{length_push}
use Rattle.record_file.specs.Records.{records, HasRecords}
use Rattle.record_file.specs.State.{payload_of}
use Rattle.record_file.proofs.ScanLemmas.{records_long}
use Rattle.record_file.proofs.scan.Scan.admit.Goals as goal

pub returns-clause-scan : goal.returns-clause-scan
returns-clause-scan c = λ file scan next.
    let old = c.args.self.now in
    let same : c.hear.new.self ≡ old.found ++ payload_of old ∷ [] = c.hear.ensures ∙ ap (λ p. old.found ++ p ∷ []) c.piece.ensures.piece in
    let low = records_long (old.found ++ payload_of old ∷ []) in
    let end = ap (λ m. length m) next.2.is in
    let more = length_push old.found (payload_of old) in
    let counted : c.saturating_add-count.result ≡ length (old.found ++ payload_of old ∷ []) =
    omega (
      arith,
      c.saturating_add-count.ensures,
      scan.count,
      low,
      end,
      more,
      scan.short,
      length-drop old.first file,
      length-append (records (old.found ++ payload_of old ∷ [])) (next.0 ∷ next.1),
    ) in record {
      long = scan.long;
      short = scan.short;
      begins = scan.begins;
      size = scan.size;
      window = scan.window;
      gate = next.0;
      rest = next.1;
      has = subst (λ ps. HasRecords old.first file ps next.0 next.1) (sym same) next.2;
      place = next.3 ∙ ap (λ (ps : List (List ℕ)). old.first + length (records ps)) (sym same);
      count = counted ∙ ap (λ (ps : List (List ℕ)). length ps) (sym same);
    }
