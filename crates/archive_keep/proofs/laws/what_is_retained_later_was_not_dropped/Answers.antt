use Rattle.archive_keep.specs.Archive.{is_retained}
use Rattle.archive_keep.proofs.KeptLemmas.{purged_later, filter_passes}
use Rattle.archive_keep.proofs.laws.what_is_retained_later_was_not_dropped.Goals as goal

pub returns-clause-purge : goal.returns-clause-purge
returns-clause-purge c = λ moment later a le. purged_later a.days moment later a.events le

pub returns-clause-update : goal.returns-clause-update
returns-clause-update c = λ days moment a. filter_passes (is_retained a.days moment) a.events
