-- The idea of the proof, lowest layer first. What may still come at each state of the reader is a predicate by cases on the bytes
-- (Following). Inside a token it is what the number's and the string's machine take, and `NumberReads` and `CharacterReads` show,
-- in both directions, that this is the grammar's spelling. `Productions` shows the same of values, lists and objects: they are the
-- same sequence of other elements. What follows a byte is said of the result of its step, and that is what follows with the byte, in
-- both directions (ByteSteps), so the machine reads exactly the texts of the grammar (WholeTexts). Each state can be completed, and a
-- byte does the same at one level more but for a bracket: the place of a fault is the longest front of some text (FaultPlaces).
-- The code does what the machine does: a string by itself (StringScan), its plain bytes several at a time (PlainLemmas), each token within
-- a text (TokenRuns),
-- one byte between tokens (StepLemmas), what the reader keeps (KeptLemmas). What is read is a value (ValueLemmas).
-- What is written is spelled (CompactLemmas, SpelledBack) and UTF-8 (WrittenUtf8).
-- Notes. What is still to come in the open lists and objects is one argument (`Future outer`), so no existential is inside a continuation.
-- A record with both directions (`Reads X V W`) composes: white space, brackets, a member, an element and more of them are then the same
-- calls.
-- A key's place is counted from the end, and the levels that are left are a number in the predicate: no place and no depth is passed along.
-- What a scan returns agrees with what is read by one predicate over `Result` (`Agrees`): one induction shows where it goes on and where it
-- stops.
-- The bytes before a fault, the state after them and that both are the same at one level more are one record and one induction (`Stopped`).
-- `#[tactic(auto, unfolding(..))]` with `scan_string` closes each arm of a slice pattern that stops; what is left is `scanned_after`.
-- Each part of a string can be completed by its form: a code unit counts the digits after the next one, a range is its first byte and its
-- width.
-- `omega arith` proves the UTF-8 bytes of a code point written as 64 * (64 * a + b) + c. `from_utf8_unchecked` requires `IsUtf8`.
-- A map that is built when it is needed: `(map) → slots ≡ Some map → ..` as its ghost field needs no proof. It is filled from the last
-- member on.
-- A set of hashes in a `u128`: `bit_at_set_same`, `bit_at_set_other`. Nothing has to be known of the hash but that it is a function.
-- The tree of each variant: `ap tree_of (sym (rolls-V v)) ∙ fold-roll-Json Tree view_step (Json-F.V v)`.
-- Items and members are twins in ByteSteps, Productions, SpelledBack, WrittenUtf8 and ValueLemmas, since `Nodes` and `Fields` are two
-- public types.
-- Not tried: a machine over tokens, which may save some 250 lines of ByteSteps, TokenRuns and FaultPlaces.
pub mod Encoded
pub mod Following
pub mod NumberReads
pub mod CharacterReads
pub mod Productions
pub mod ByteSteps
pub mod WholeTexts
pub mod FaultPlaces
pub mod StringScan
pub mod TokenRuns
pub mod StepLemmas
pub mod ViewLemmas
pub mod KeptLemmas
pub mod ValueLemmas
pub mod OneValue
pub mod CompactLemmas
pub mod SpelledBack
pub mod WrittenUtf8
pub mod PlainLemmas
