use Rattle.std.proofs.Common.{◌≡◌, map, take}
use Rattle.httparse.specs.Spans.{header_bytes}
use Rattle.api_messages.specs.Fields.{known_of}
use Rattle.api_messages.specs.Reading.{known}
use Rattle.api_messages.proofs.fields.Fields.of.Given as goal

abbrev pub invariant-loop-header : goal.invariant-loop-header
invariant-loop-header l = known l.fields ≡ known_of (map (header_bytes l.bytes) (take l.header-index l.headers))
