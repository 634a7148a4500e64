-- `Greedy`: the whole fits if and only if this place or a later cut fits, over plain lists, instantiated with `drop`. Each kind of step is
-- one lemma.
-- `Reads` is an invariant in continuation form. From std: `encode_same`, `IsUtf8-take`, `NoCharPasses-byte` (what `rsplit_once` leaves),
-- `decimal-digits_value` with `parse_plain`, `IsIpv4Text_unique`.
pub mod PieceLemmas
pub mod PlaceLemmas
pub mod Progress
pub mod WildLemmas
pub mod AsciiCaseLemmas
pub mod CidrLemmas
