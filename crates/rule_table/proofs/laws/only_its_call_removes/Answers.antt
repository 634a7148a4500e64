use Rattle.rule_table.proofs.LossLemmas.{bus_kept, rule_kept, target_kept, queue_kept, archive_kept}
use Rattle.rule_table.proofs.laws.only_its_call_removes.Goals as goal

pub returns : goal.returns
returns c = record { buses = bus_kept; rules = rule_kept; targets = target_kept; queues = queue_kept; archives = archive_kept }
