use Rattle.std.proofs.Common.{◌≡◌, length}
use Rattle.rule_table.proofs.ArchiveLemmas.{on_bus}
use Rattle.rule_table.proofs.rule_set.RuleSet.has_no_archive.Given as goal

-- the archives of the bus are among those that are left
abbrev pub invariant-loop-archive : goal.invariant-loop-archive
invariant-loop-archive l = on_bus l.bus l.archives ≡ on_bus l.bus l.self.archives

abbrev pub decreases-loop-archive : goal.decreases-loop-archive
decreases-loop-archive l = length l.archives
