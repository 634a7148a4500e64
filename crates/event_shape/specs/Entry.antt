-- An entry of a request to put events, as contracts see it, and its size.
use Rattle.std.specs.Prelude.{ℕ, ◌+◌, List, Option, Some, None, length, sum_by}
use Rattle.std.specs.Option.{option_map}
use Rattle.json_text.specs.Tree.{Tree}
use Rattle.json_text.specs.View.{tree_of}
use Rattle.event_shape.specs.declared.entry.EventEntry.{EventEntry}

-- An entry of a PutEvents: time, source, resources, detail type, detail and bus, each as given or absent.
-- Shown by: event_tests test_event_shape.rt: the_first_fault_is_reported.
pub record Entry : Type 0 where
  pub time : Option Tree
  pub source : Option (List ℕ)
  pub resources : List (List ℕ)
  pub detail_type : Option (List ℕ)
  pub detail : Option (List ℕ)
  pub bus : Option (List ℕ)

-- What contracts see of the code's `EventEntry`.
-- Shown by: event_tests test_event_shape.rt: the_first_fault_is_reported.
abbrev pub entry_of : EventEntry → Entry
entry_of e = record {
  time = option_map tree_of e.time;
  source = e.source;
  resources = e.resources.items;
  detail_type = e.detail_type;
  detail = e.detail;
  bus = e.bus;
}

-- 14 for a Time (this project's own rule)
abbrev pub time_size : Option Tree → ℕ
time_size None = 0
time_size (Some tree) = 14

-- the bytes of a text
abbrev pub text_size : Option (List ℕ) → ℕ
text_size None = 0
text_size (Some t) = length t

-- The size of an entry in bytes: 14 for a time, and the bytes of its source, detail type, detail and resources. The bus does not count
-- (this project's own rule).
-- Shown by: event_tests test_event_shape.rt: a_size_is_the_sum_of_its_bytes.
abbrev pub size_of : Entry → ℕ
size_of e = time_size e.time + text_size e.source + text_size e.detail_type + text_size e.detail + sum_by length e.resources
