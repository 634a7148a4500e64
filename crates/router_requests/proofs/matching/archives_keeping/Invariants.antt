use Rattle.std.proofs.Common.{◌≡◌, ◌++◌, List, length}
use Rattle.json_text.specs.View.{tree_of}
use Rattle.rule_table.specs.RuleSet.{Archive}
use Rattle.router_requests.specs.Matching.{AreKeeping}
use Rattle.router_requests.proofs.SeenArchiveLemmas.{on_bus}
use Rattle.router_requests.proofs.matching.archives_keeping.Given as goal

-- those that keep it of the archives so far, which are those that are not left
abbrev pub invariant-loop-archive : goal.invariant-loop-archive
invariant-loop-archive l =
    (done : List Archive) × (done ++ l.archives ≡ l.initial.archives) × AreKeeping (on_bus l.bus done) (tree_of l.event) l.found.items

abbrev pub decreases-loop-archive : goal.decreases-loop-archive
decreases-loop-archive l = length l.archives
