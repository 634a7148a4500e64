-- To read what was written: take apart by place, make again, write, compare. Only "if it is one, it is this one" is proved of the parts
-- (`ArePartsOf`).
-- The first fault by place: `eq-or-lt_of_le` and "no fault below this place" give each exit of `check` in one line.
-- `event_value` in one big `cc` looks into all records; over plain trees in a lemma of its own (`parts_once`) it closes.
-- In a `None` arm put a variable of the tree's own type (`inside : Items`), and not `items_of ts`.
-- A value moved into another form (`Unnumbered`): `Snapshot::of(&event)` before the move is the view; the invariant ties the new fields to
-- it.
-- A text in which a part is replaced: one lemma (`around_id`) cuts it for any number. `unfolding by_index` makes the id of a literal number
-- `refl`.
-- A text piece by piece: `opened` removes the last brace (`take_at`), the members' text is cut, and keys and commas compute as `codes
-- ".."`.
-- What a caller needs of UTF-8 after a JSON value was read comes from `IsValue`. A dot that is nowhere else: `split_text_parts`.
pub mod Found
pub mod NameLemmas
pub mod NumberLemmas
pub mod EntryLemmas
pub mod CheckLemmas
pub mod MakeLemmas
pub mod EventLemmas
pub mod ValidLemmas
pub mod OnceLemmas
pub mod CheckedOnce
pub mod MadeLemmas
pub mod SpelledLemmas
pub mod PartLemmas
pub mod WrittenLemmas
pub mod UnnumberedLemmas
