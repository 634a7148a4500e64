-- The size of an entry while its resources are counted.
use Rattle.std.proofs.Common.{ℕ, ◌+◌}
use Rattle.event_shape.specs.Entry.{entry_of, time_size, text_size}
use Rattle.event_shape.specs.declared.entry.EventEntry.{EventEntry}

-- all but the resources
abbrev pub members_size : EventEntry → ℕ
members_size e = time_size (entry_of e).time + text_size e.source + text_size e.detail_type + text_size e.detail
