-- Batches as bytes, and which batches have them: the payload of a journal's record. Numbers are big-endian. This project's own format.
use Rattle.std.specs.Prelude.{◌≡◌, ℕ, ◌^◌, ◌<◌, ◌≤◌, List, ◌∷◌, ◌++◌, length}
use Rattle.std.specs.List.{flat_map, AllByRecursion}
use Rattle.rule_table.specs.WellFormed.{IsSpelled}
use Rattle.delivery_duties.specs.declared.duty.NewDuty.{NewDuty}
use Rattle.router_requests.specs.declared.batch.StartedReplay.{StartedReplay}
use Rattle.router_requests.specs.Batch.{Accepted, Stepped, Entry, control, accepted, attempt, replay_started, replay_stepped, replay_cancelled, messages_deleted, Batch}
use Rattle.entry_bytes.specs.Fields.{two_bytes, eight_bytes, text_bytes, optional_bytes, list_bytes, IsText, IsOptional, IsList}
use Rattle.entry_bytes.specs.Change.{change_bytes, IsChange}
use Rattle.entry_bytes.specs.Duty.{duty_bytes, outcome_bytes, IsDuty, IsNamed, IsOutcome}

-- An accepted event: its number, its bus, the configuration version that it was matched on, its time, its text, the names of its archives, its duties.
-- Shown by: table_tests test_duty_journal.rt: each_batch_has_its_bytes.
abbrev pub accepted_bytes : Accepted → List ℕ
accepted_bytes e =
    eight_bytes e.number ++ (text_bytes e.bus ++ (eight_bytes e.k ++ (eight_bytes e.time
    ++ (text_bytes e.text ++ (list_bytes text_bytes e.archives ++ list_bytes duty_bytes e.duties)))))

-- A replay that starts: its name, its archive, the first and the last time of its range, and the names of the rules of its filter, if it has one.
-- Shown by: proofs alone.
abbrev pub started_bytes : StartedReplay → List ℕ
started_bytes s =
    text_bytes s.name ++ (text_bytes s.archive ++ (eight_bytes s.range.start ++ (eight_bytes s.range.end ++ optional_bytes (list_bytes text_bytes) s.rules)))

-- A step of a replay: the replay's name, the number of the event, its duties.
-- Shown by: proofs alone.
abbrev pub stepped_bytes : Stepped → List ℕ
stepped_bytes s = text_bytes s.name ++ (eight_bytes s.event ++ list_bytes duty_bytes s.duties)

-- An operation: its kind, which is from 1 to 13 of a change, and its fields.
-- Shown by: table_tests test_duty_journal.rt: each_batch_has_its_bytes.
abbrev pub operation_bytes : Entry → List ℕ
operation_bytes (control c) = change_bytes c
operation_bytes (accepted e) = 14 ∷ accepted_bytes e
operation_bytes (attempt duty outcome) = 15 ∷ (eight_bytes duty ++ outcome_bytes outcome)
operation_bytes (replay_started s) = 16 ∷ started_bytes s
operation_bytes (replay_stepped s) = 17 ∷ stepped_bytes s
operation_bytes (replay_cancelled name) = 18 ∷ text_bytes name
operation_bytes (messages_deleted queue through) = 19 ∷ (text_bytes queue ++ eight_bytes through)

-- A batch: its moment in eight bytes, the number of its operations in two, and the operations. The batch that creates the queue `q` at the
-- moment 1700000000 is `000000006553f100 0001 09 00000001 71`.
-- Shown by: table_tests test_duty_journal.rt: each_batch_has_its_bytes.
abbrev pub batch_bytes : Batch → List ℕ
batch_bytes b = eight_bytes b.moment ++ (two_bytes (length b.entries) ++ flat_map operation_bytes b.entries)

-- Each field of the event has bytes; of its duties this holds.
-- Shown by: proofs alone.
abbrev pub IsAccepted : (NewDuty → Type 0) → Accepted → Type 0
IsAccepted is_duty e =
    (e.number < 2 ^ 64) × (IsText e.bus × ((e.k < 2 ^ 64) × ((e.time < 2 ^ 64) × (IsText e.text × (IsList IsText e.archives × IsList is_duty e.duties)))))

-- Each field of the start has bytes.
-- Shown by: proofs alone.
abbrev pub IsStarted : StartedReplay → Type 0
IsStarted s = IsText s.name × (IsText s.archive × ((s.range.start < 2 ^ 64) × ((s.range.end < 2 ^ 64) × IsOptional (IsList IsText) s.rules)))

-- Each field of the step has bytes; of its duties this holds.
-- Shown by: proofs alone.
abbrev pub IsStepped : (NewDuty → Type 0) → Stepped → Type 0
IsStepped is_duty s = IsText s.name × ((s.event < 2 ^ 64) × IsList is_duty s.duties)

-- Each field of the operation has bytes; of the duties of an event or of a step this holds.
-- Shown by: proofs alone.
abbrev pub IsOperation : (NewDuty → Type 0) → Entry → Type 0
IsOperation is_duty (control c) = IsChange c
IsOperation is_duty (accepted e) = IsAccepted is_duty e
IsOperation is_duty (attempt duty outcome) = (duty < 2 ^ 64) × IsOutcome outcome
IsOperation is_duty (replay_started s) = IsStarted s
IsOperation is_duty (replay_stepped s) = IsStepped is_duty s
IsOperation is_duty (replay_cancelled name) = IsText name
IsOperation is_duty (messages_deleted queue through) = IsText queue × (through < 2 ^ 64)

-- The numbers, texts and lists of the batch have bytes, and it has at least one operation.
-- Shown by: proofs alone.
pub record FitsBytes (b : Batch) : Type 0 where
  pub moment : b.moment < 2 ^ 64
  pub some : 1 ≤ length b.entries
  pub few : length b.entries < 2 ^ 16
  pub operations : AllByRecursion (IsOperation IsDuty) b.entries

-- Each duty of an event or of a step names its rule by the end of the rule's ARN.
-- Shown by: proofs alone.
abbrev pub NamesRules : Entry → Type 0
NamesRules (control c) = Unit {0}
NamesRules (accepted e) = AllByRecursion IsNamed e.duties
NamesRules (attempt duty outcome) = Unit {0}
NamesRules (replay_started s) = Unit {0}
NamesRules (replay_stepped s) = AllByRecursion IsNamed s.duties
NamesRules (replay_cancelled name) = Unit {0}
NamesRules (messages_deleted queue through) = Unit {0}

-- The pattern, the policy and the inputs of a change are valid.
-- Shown by: proofs alone.
abbrev pub HasValidTexts : Entry → Type 0
HasValidTexts (control c) = IsSpelled c
HasValidTexts (accepted e) = Unit {0}
HasValidTexts (attempt duty outcome) = Unit {0}
HasValidTexts (replay_started s) = Unit {0}
HasValidTexts (replay_stepped s) = Unit {0}
HasValidTexts (replay_cancelled name) = Unit {0}
HasValidTexts (messages_deleted queue through) = Unit {0}

-- A batch that is read back from its bytes: they have room for its numbers, texts and lists, its duties name their rules, and the texts of
-- its changes are valid.
-- Shown by: proofs alone.
pub record IsReadable (b : Batch) : Type 0 where
  pub fits : FitsBytes b
  pub named : AllByRecursion NamesRules b.entries
  pub valid : AllByRecursion HasValidTexts b.entries

-- The bytes are those of no batch that is read back.
-- Shown by: table_tests test_duty_journal.rt: other_bytes_are_no_batch.
abbrev pub IsNoBatch : List ℕ → Type 0
IsNoBatch bytes = (b : Batch) → IsReadable b → bytes ≡ batch_bytes b → ⊥
