use Rattle.std.proofs.Common.{◌≡◌, drop}
use Rattle.std.specs.List.{list_all}
use Rattle.rule_table.specs.RuleSet.{has_archive}
use Rattle.duty_journal.proofs.admit.have_archives.Given as goal

-- the names that are left have archives exactly if all have
abbrev pub invariant-loop-name : goal.invariant-loop-name
invariant-loop-name l = list_all (λ name. has_archive name l.set) (drop l.name-index l.names) ≡ list_all (λ name. has_archive name l.set) l.names
