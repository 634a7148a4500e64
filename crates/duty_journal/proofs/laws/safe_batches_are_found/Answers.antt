use Rattle.std.proofs.Common.{[], sym}
use Rattle.std.proofs.lemmas.List.{append-nil}
use Rattle.router_disk.proofs.DiskLemmas.{IsImageSince-now}
use Rattle.duty_journal.proofs.laws.safe_batches_are_found.Goals as goal

pub returns : goal.returns
returns c = λ first calls start found since safe all kept. record {
  order = ([], sym (append-nil safe));
  each = λ image left. kept.now image (IsImageSince-now first calls image left);
  now = kept.now;
}
