use Rattle.std.proofs.Common.{◌≡◌, length}
use Rattle.json_text.specs.{Reading.State, Reading.read_text, Kept.IsState, Kept.read_at, Kept.StartsWithNoSpace}
use Rattle.json_text.proofs.reader.read_all.Given as goal

-- reading what is left is reading everything
abbrev pub invariant-loop-byte : goal.invariant-loop-byte
invariant-loop-byte l = record {
  at_state : (s : State) × IsState l.next l.reader.waiting.items l.reader.repeat s × (read_text l.fn.levels l.fn.bytes ≡ read_at l.fn.levels l.place s);
  no_space : StartsWithNoSpace l.place.rest.now;
  levels : l.reader.levels ≡ l.fn.levels;
}

abbrev pub decreases-loop-byte : goal.decreases-loop-byte
decreases-loop-byte l = length l.place.rest.now
