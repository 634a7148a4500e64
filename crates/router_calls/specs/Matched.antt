-- What a decision asks of the result of matching.
use Rattle.std.specs.Prelude.{◌≡◌, ◌≤◌}
use Rattle.rule_table.specs.RuleSet.{RuleSet}
use Rattle.rule_table.specs.Sound.{IsSound}
use Rattle.router_requests.specs.Request.{Request, IsPublishing}
use Rattle.router_core.specs.Tables.{Tables}
use Rattle.router_requests.specs.Matching.{IsSeen}
use Rattle.router_requests.specs.declared.seen.Seen.{Seen}

-- What `decide` asks of the result of matching: it is that of the request on a sound rule set, whose version the tables have had; the
-- latest one, unless the request publishes events.
-- Shown by: tables router_calls.rows: each_request_is_answered.
pub record IsMatchedOn (t : Tables) (request : Request) (set : RuleSet) (seen : Seen) : Type 0 where
  pub sound : IsSound set
  pub is_seen : IsSeen set request seen
  pub known : set.count ≤ t.set.count
  pub latest : (IsPublishing request.action → ⊥) → set ≡ t.set
