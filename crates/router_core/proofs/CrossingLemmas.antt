-- A rule set may go to another thread, and be read by several: `set_send`, `set_sync`; what a change holds may go too: `shared_pattern_send`,
-- `stored_policy_send`. One lemma for each type, since one search over the whole type stops at its limit.
use denote.Param.Send.{IsSend, IsSync, sendable}
use Rattle.std.proofs.Crossing.{crosses}
use Rattle.json_text.proofs.base.Text.TheSendSync as text
use Rattle.json_text.proofs.value.Json.TheLaws.TheKnot as json
use Rattle.leaf_match.proofs.wildcard.Wild.TheSendSync as wild
use Rattle.leaf_match.proofs.cidr.Cidr.TheSendSync as cidr
use Rattle.pattern_meaning.proofs.comparison.Comparison.TheSendSync as comparison
use Rattle.pattern_meaning.proofs.pattern.Field.TheLaws.TheKnot as field
use Rattle.pattern_meaning.proofs.pattern.LeafTest.TheLaws.TheKnot as leaf_test
use Rattle.pattern_read.specs.contracts.pattern_text.PatternText as pattern
use Rattle.pattern_read.specs.contracts.shared_pattern.SharedPattern as shared_pattern
use Rattle.bus_policy.specs.contracts.policy.Policy as policy
use Rattle.name_rows.proofs.rows.Rows.TheSendSync as rows
use Rattle.shared_text.proofs.row.TargetRow.TheSendSync as target_row
use Rattle.shared_text.proofs.text.SharedText.TheSendSync as shared_text
use Rattle.shared_text.specs.contracts.row.SharedRow as shared_row
use Rattle.rule_targets.proofs.shared_input.ReadInput.TheSendSync as read_input
use Rattle.rule_targets.specs.contracts.shared_input.SharedInput as shared_input
use Rattle.rule_table.specs.contracts.rule_target.RuleTarget as rule_target
use Rattle.rule_table.specs.contracts.rule.Rule as rule
use Rattle.rule_table.specs.contracts.policy.SharedPolicy as shared
use Rattle.rule_table.specs.contracts.policy.StoredPolicy as stored
use Rattle.rule_table.specs.contracts.bus.Bus as bus
use Rattle.rule_table.specs.contracts.archive_row.ArchiveRow as archive
use Rattle.rule_table.specs.contracts.rule_set.RuleSet as rule_set

pattern_send : IsSend pattern.the_row
pattern_send = search (
  sendable,
  crosses,
  text.the_send,
  json.crosses,
  field.crosses,
  leaf_test.crosses,
  wild.the_send,
  cidr.the_send,
  comparison.the_send,
) depth 20

pattern_sync : IsSync pattern.the_row
pattern_sync = search (
  sendable,
  crosses,
  text.the_sync,
  json.crosses,
  field.crosses,
  leaf_test.crosses,
  wild.the_sync,
  cidr.the_sync,
  comparison.the_sync,
) depth 20

pub shared_pattern_send : IsSend shared_pattern.the_row
shared_pattern_send = search (sendable, crosses, pattern_send, pattern_sync) depth 20

shared_pattern_sync : IsSync shared_pattern.the_row
shared_pattern_sync = search (sendable, crosses, pattern_send, pattern_sync) depth 20

pub row_send : IsSend shared_row.the_row
row_send = search (sendable, crosses, target_row.the_send, target_row.the_sync) depth 20

pub row_sync : IsSync shared_row.the_row
row_sync = search (sendable, crosses, target_row.the_send, target_row.the_sync) depth 20

pub input_send : IsSend shared_input.the_row
input_send = search (sendable, crosses, read_input.the_send, read_input.the_sync) depth 20

pub input_sync : IsSync shared_input.the_row
input_sync = search (sendable, crosses, read_input.the_send, read_input.the_sync) depth 20

target_send : IsSend rule_target.the_row
target_send = search (sendable, crosses, row_send, input_send) depth 20

target_sync : IsSync rule_target.the_row
target_sync = search (sendable, crosses, row_sync, input_sync) depth 20

rule_send : IsSend rule.the_row
rule_send = search (sendable, crosses, text.the_send, shared_pattern_send, target_send) depth 20

rule_sync : IsSync rule.the_row
rule_sync = search (sendable, crosses, text.the_sync, shared_pattern_sync, target_sync) depth 20

policy_send : IsSend policy.the_row
policy_send = search (sendable, crosses, text.the_send, json.crosses) depth 20

policy_sync : IsSync policy.the_row
policy_sync = search (sendable, crosses, text.the_sync, json.crosses) depth 20

shared_send : IsSend shared.the_row
shared_send = search (sendable, crosses, policy_send, policy_sync) depth 20

shared_sync : IsSync shared.the_row
shared_sync = search (sendable, crosses, policy_send, policy_sync) depth 20

pub stored_policy_send : IsSend stored.the_row
stored_policy_send = search (sendable, crosses, policy_send, policy_sync) depth 20

bus_send : IsSend bus.the_row
bus_send = search (sendable, crosses, text.the_send, rule_send, rule_sync, shared_send, rows.the_send) depth 20

bus_sync : IsSync bus.the_row
bus_sync = search (sendable, crosses, text.the_sync, rule_send, rule_sync, shared_sync, rows.the_sync) depth 20

archive_send : IsSend archive.the_row
archive_send = search (sendable, crosses, shared_text.the_send, shared_pattern_send) depth 20

archive_sync : IsSync archive.the_row
archive_sync = search (sendable, crosses, shared_text.the_sync, shared_pattern_sync) depth 20

pub set_send : IsSend rule_set.the_row
set_send = search (sendable, crosses, text.the_send, text.the_sync, bus_send, bus_sync, archive_send, archive_sync, rows.the_send) depth 20

pub set_sync : IsSync rule_set.the_row
set_sync = search (sendable, crosses, text.the_send, text.the_sync, bus_send, bus_sync, archive_send, archive_sync, rows.the_sync) depth 20
