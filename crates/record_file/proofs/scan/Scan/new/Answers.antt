use Rattle.std.proofs.Common.{ℕ, List, ◌+◌, ◌<◌, length, get_or, drop, sym, ap, subst, arith}
use Rattle.std.proofs.lemmas.List.{drop_more}
use Rattle.record_file.specs.Records.{records, HasRecords}
use Rattle.record_file.proofs.FindLemmas.{empty_window}
use Rattle.record_file.proofs.scan.Scan.new.Goals as goal

pub returns-clause-scan : goal.returns-clause-scan
returns-clause-scan c = λ file size short begins.
    let at = c.args.first in
    let long : at + 1 < length file = omega (arith, c.requires, size) in record {
      long = long;
      short = short;
      begins = begins;
      size = size;
      window = empty_window file c.new-window.result c.new-window.ensures.empty;
      gate = get_or file at 0;
      rest = drop (at + 1) file;
      has = subst (λ ps. HasRecords at file ps (get_or file at 0) (drop (at + 1) file)) (sym c.new-found.ensures)
          (record { is = drop_more file at 0 (omega (arith, long)); fit = tt });
      place = omega (arith, ap (λ (ps : List (List ℕ)). length (records ps)) c.new-found.ensures);
      count = ap (λ (ps : List (List ℕ)). length ps) (sym c.new-found.ensures);
    }
