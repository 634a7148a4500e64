-- Two lemmas tie each reader to the grammar: what is spelled is found, by cases on the grammar's facts, and what is found is spelled, by
-- `cond` lemmas.
-- `a * 10 ^ i * 10 ^ j ≡ a * 10 ^ (i + j)`, and cancelling a positive factor, are all that the powers of ten need.
-- The tree of spans: each node encloses its two children; "is under" is `data` with `here`, `left`, `right`. No depth and no power of two
-- is needed.
-- Marks out of words: `map (is_marked words) (range_with_len 0 n)`, with `fill_by_all`, `bit_at_set_same` and `bit_at_set_other`.
pub mod MarksLemmas
pub mod NumberLemmas
pub mod PowerLemmas
pub mod SizeLemmas
pub mod MillionthsLemmas
pub mod RangeLemmas
