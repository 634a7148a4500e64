use Rattle.archive_keep.specs.Archive.{is_retained, retained_at}
use Rattle.archive_keep.proofs.KeptLemmas.{order_filter}
use Rattle.replay_run.specs.Selection.{is_in_range, chosen_of}
use Rattle.replay_run.proofs.SelectionLemmas.{by_time_ordered, by_time_permutes}
use Rattle.replay_run.proofs.laws.a_selection_is_in_order.Goals as goal

pub returns-clause-order : goal.returns-clause-order
returns-clause-order c = λ range moment a o.
    by_time_ordered (chosen_of range moment a)
    (order_filter (is_in_range range) (retained_at moment a) (order_filter (is_retained a.days moment) a.events o))

pub returns-clause-once : goal.returns-clause-once
returns-clause-once c = λ range moment a. by_time_permutes (chosen_of range moment a)
