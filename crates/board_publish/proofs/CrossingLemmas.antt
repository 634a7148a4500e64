-- A board may go to another thread, and be read by several: `board_send`, `board_sync`. One lemma for each type, since one search over the whole
-- type stops at its limit.
use denote.Param.Send.{IsSend, IsSync, sendable}
use Rattle.std.proofs.Crossing.{crosses}
use Rattle.json_text.proofs.base.Text.TheSendSync as text
use Rattle.json_text.proofs.value.Json.TheLaws.TheKnot as json
use Rattle.numeric_keys.specs.contracts.ranges.Ranges as ranges
use Rattle.leaf_match.proofs.wildcard.Wild.TheSendSync as wild
use Rattle.leaf_match.proofs.cidr.Cidr.TheSendSync as cidr
use Rattle.event_flatten.specs.contracts.path.Path as path
use Rattle.event_flatten.specs.contracts.paths.Paths as paths
use Rattle.pattern_meaning.proofs.comparison.Comparison.TheSendSync as comparison
use Rattle.pattern_meaning.proofs.pattern.Field.TheLaws.TheKnot as field
use Rattle.pattern_meaning.proofs.pattern.LeafTest.TheLaws.TheKnot as leaf_test
use Rattle.pattern_read.specs.contracts.pattern_text.PatternText as pattern
use Rattle.pattern_read.specs.contracts.shared_pattern.SharedPattern as shared_pattern
use Rattle.value_index.specs.contracts.row.Row as row
use Rattle.value_index.specs.contracts.lengths.Lengths as lengths
use Rattle.value_index.specs.contracts.index.PathIndex as index
use Rattle.rule_automaton.specs.contracts.anchor.Anchor as anchor
use Rattle.rule_automaton.specs.contracts.rule.Rule as rule
use Rattle.rule_automaton.specs.contracts.table.Table as table
use Rattle.rule_automaton.specs.contracts.weights.Weights as weights
use Rattle.rule_automaton.specs.contracts.automaton.Automaton as automaton
use Rattle.name_rows.proofs.rows.Rows.TheSendSync as rows
use Rattle.router_core.proofs.CrossingLemmas.{shared_pattern_send, set_send, set_sync}
use Rattle.board_publish.specs.contracts.entered.Entered as entered
use Rattle.board_publish.specs.contracts.matcher.Matcher as matcher
use Rattle.board_publish.specs.contracts.board.Board as board

ranges_send : IsSend ranges.the_row
ranges_send = search (sendable, crosses) depth 20

ranges_sync : IsSync ranges.the_row
ranges_sync = search (sendable, crosses) depth 20

path_send : IsSend path.the_row
path_send = search (sendable, crosses, text.the_send) depth 20

path_sync : IsSync path.the_row
path_sync = search (sendable, crosses, text.the_sync) depth 20

paths_send : IsSend paths.the_row
paths_send = search (sendable, crosses, path_send) depth 20

paths_sync : IsSync paths.the_row
paths_sync = search (sendable, crosses, path_sync) depth 20

pattern_send : IsSend pattern.the_row
pattern_send = search (
  sendable,
  crosses,
  text.the_send,
  json.crosses,
  field.crosses,
  leaf_test.crosses,
  wild.the_send,
  cidr.the_send,
  comparison.the_send,
) depth 20

pattern_sync : IsSync pattern.the_row
pattern_sync = search (
  sendable,
  crosses,
  text.the_sync,
  json.crosses,
  field.crosses,
  leaf_test.crosses,
  wild.the_sync,
  cidr.the_sync,
  comparison.the_sync,
) depth 20

shared_pattern_sync : IsSync shared_pattern.the_row
shared_pattern_sync = search (sendable, crosses, pattern_send, pattern_sync) depth 20

row_send : IsSend row.the_row
row_send = search (
  sendable,
  crosses,
  text.the_send,
  json.crosses,
  field.crosses,
  leaf_test.crosses,
  wild.the_send,
  cidr.the_send,
  comparison.the_send,
  text.the_sync,
  wild.the_sync,
  cidr.the_sync,
  comparison.the_sync,
) depth 20

row_sync : IsSync row.the_row
row_sync = search (
  sendable,
  crosses,
  text.the_send,
  json.crosses,
  field.crosses,
  leaf_test.crosses,
  wild.the_send,
  cidr.the_send,
  comparison.the_send,
  text.the_sync,
  wild.the_sync,
  cidr.the_sync,
  comparison.the_sync,
) depth 20

lengths_send : IsSend (lengths.the_field).row
lengths_send = search (sendable, crosses) depth 20

lengths_sync : IsSync (lengths.the_field).row
lengths_sync = search (sendable, crosses) depth 20

index_send : IsSend index.the_row
index_send = search (sendable, crosses, row_send, lengths_send, ranges_send) depth 20

index_sync : IsSync index.the_row
index_sync = search (sendable, crosses, row_sync, lengths_sync, ranges_sync) depth 20

anchor_send : IsSend anchor.the_row
anchor_send = search (
  sendable,
  crosses,
  path_send,
  text.the_send,
  json.crosses,
  field.crosses,
  leaf_test.crosses,
  wild.the_send,
  cidr.the_send,
  comparison.the_send,
  text.the_sync,
  wild.the_sync,
  cidr.the_sync,
  comparison.the_sync,
) depth 20

anchor_sync : IsSync anchor.the_row
anchor_sync = search (
  sendable,
  crosses,
  path_sync,
  text.the_send,
  json.crosses,
  field.crosses,
  leaf_test.crosses,
  wild.the_send,
  cidr.the_send,
  comparison.the_send,
  text.the_sync,
  wild.the_sync,
  cidr.the_sync,
  comparison.the_sync,
) depth 20

rule_send : IsSend rule.the_row
rule_send = search (sendable, crosses, shared_pattern_send, anchor_send, anchor_sync) depth 20

rule_sync : IsSync rule.the_row
rule_sync = search (sendable, crosses, shared_pattern_sync, anchor_send, anchor_sync) depth 20

table_send : IsSend (table.the_field).row
table_send = search (sendable, crosses, paths_send, index_send, index_sync) depth 20

table_sync : IsSync (table.the_field).row
table_sync = search (sendable, crosses, paths_sync, index_send, index_sync) depth 20

weights_send : IsSend (weights.the_field).row
weights_send = search (sendable, crosses) depth 20

weights_sync : IsSync (weights.the_field).row
weights_sync = search (sendable, crosses) depth 20

automaton_send : IsSend (automaton.the_field).row
automaton_send = search (sendable, crosses, rule_send, table_send, weights_send) depth 20

automaton_sync : IsSync (automaton.the_field).row
automaton_sync = search (sendable, crosses, rule_sync, table_sync, weights_sync) depth 20

entered_send : IsSend entered.the_row
entered_send = search (sendable, crosses, text.the_send) depth 20

entered_sync : IsSync entered.the_row
entered_sync = search (sendable, crosses, text.the_sync) depth 20

matcher_send : IsSend matcher.the_row
matcher_send = search (sendable, crosses, text.the_send, automaton_send, entered_send, entered_sync, rows.the_send) depth 20

matcher_sync : IsSync matcher.the_row
matcher_sync = search (sendable, crosses, text.the_sync, automaton_sync, entered_send, entered_sync, rows.the_sync) depth 20

pub board_send : IsSend board.the_row
board_send = search (sendable, crosses, set_send, matcher_send, matcher_sync, rows.the_send) depth 20

pub board_sync : IsSync board.the_row
board_sync = search (sendable, crosses, set_sync, matcher_send, matcher_sync, rows.the_sync) depth 20
