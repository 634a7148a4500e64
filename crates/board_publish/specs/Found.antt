-- For private clauses alone: the targets of the rules that are marked.
use Rattle.std.specs.Prelude.{ℕ, Bool, false, if◌then◌else◌, List, [], map, Option, Some, None, slice_index_or}
use Rattle.rule_table.specs.RuleSet.{Rule, RuleSet, rule_at}
use Rattle.router_requests.specs.Matching.{seen_target}
use Rattle.router_requests.specs.declared.seen.SeenTarget.{SeenTarget}
use Rattle.board_publish.specs.declared.entered.Entered.{Entered}

-- the targets of the rule, none if there is none
abbrev pub seen_of : Option Rule → List SeenTarget
seen_of None = []
seen_of (Some rule) = map (seen_target rule) rule.targets

-- the targets of the rule of this name on the bus, if its number is marked
abbrev pub found_for : RuleSet → List ℕ → List Bool → Entered → List SeenTarget
found_for set bus marks rule = if slice_index_or marks rule.number false then seen_of (rule_at bus rule.name set) else []
