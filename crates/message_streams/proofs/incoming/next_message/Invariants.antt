use Rattle.std.proofs.Common.{◌≡◌, ◌-◌, ◌<◌, ◌≤◌, None, length}
use Rattle.message_streams.proofs.IncomingLemmas.{IsReading}
use Rattle.message_streams.proofs.incoming.next_message.Given as goal

-- the buffered bytes are those that were there and those read
abbrev pub invariant-loop-message : goal.invariant-loop-message
invariant-loop-message g l = record {
  reading : IsReading (g.S.Source.gave l.initial.input) (g.S.Source.gave l.input) l.initial.wire.rest l.wire.rest;
  unrefused : l.wire.refused ≡ None;
  faultless : g.S.Source.faults l.input ≡ g.S.Source.faults l.initial.input;
  room : 0 < length l.piece;
  most : length l.piece ≤ 16384;
}

-- what is awaited is shorter than this
abbrev pub decreases-loop-message : goal.decreases-loop-message
decreases-loop-message g l = 1064960 - length l.wire.rest
