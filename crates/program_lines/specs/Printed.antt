-- Lines that the program prints on its output while it serves connections.
use Rattle.std.specs.Prelude.{ℕ, List, [], ◌∷◌, ◌++◌, codes, decimal}
use Rattle.program_lines.specs.declared.printed.Summary.{Summary}

-- Numbers, each after its word, and a line feed.
-- Shown by: outside_tests test_program_lines.rt: the_summary_has_its_lines.
abbrev pub counts_line : List (List ℕ × ℕ) → List ℕ
counts_line [] = 10 ∷ []
counts_line (count ∷ counts) = count.0 ++ (decimal count.1 ++ counts_line counts)

-- `listening`, a port and a line feed.
-- Shown by: outside_tests test_program_lines.rt: the_port_is_printed.
abbrev pub listening_text : ℕ → List ℕ
listening_text port = counts_line ((codes "listening ", port) ∷ [])

abbrev pub record_line : Summary → List ℕ
record_line s = counts_line ((codes "records ", s.records) ∷ ((codes " entries ", s.entries) ∷ ((codes " control ", s.control) ∷ [])))

abbrev pub event_line : Summary → List ℕ
event_line s = counts_line ((codes "events ", s.events) ∷ ((codes " archived ", s.archived) ∷ ((codes " replays ", s.replays) ∷ [])))

-- the deliveries that have ended, by how they ended
abbrev pub ended_counts : Summary → List (List ℕ × ℕ)
ended_counts s = (codes " delivered ", s.delivered) ∷ ((codes " dead-lettered ", s.dead_lettered) ∷ ((codes " dropped ", s.dropped) ∷ []))

abbrev pub duty_line : Summary → List ℕ
duty_line s = counts_line ((codes "duties ", s.duties) ∷ ((codes " pending ", s.pending) ∷ ended_counts s))

abbrev pub message_line : Summary → List ℕ
message_line s = counts_line ((codes "messages ", s.messages) ∷ [])

-- The four lines of the summary (`record_line`, `event_line`, `duty_line` with `ended_counts`, `message_line`).
-- Shown by: outside_tests test_program_lines.rt: the_summary_has_its_lines.
abbrev pub summary_lines : Summary → List ℕ
summary_lines s = record_line s ++ (event_line s ++ (duty_line s ++ message_line s))
