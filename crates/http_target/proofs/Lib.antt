-- `request_head` maps one function over a list of names and values, so that the grammar reads these values is one map over the same list.
-- `url`'s clause `valid` of `path` and `query` gives `IsValid`; from there `segment_list_kept`, `hierarchical` and `All_kept` give each
-- byte.
-- A loop over heads keeps the list of heads skipped so far. `no_reply` goes along two lists of heads, and shows with `response_unique` that
-- a
-- second reading is the first. "Not yet" and "never" are instances of it.
-- A reader of one piece returns the slice after it (`Front::Whole`), and not a length: the loop's goals then name no slice.
pub mod RequestLemmas
pub mod ReplyLemmas
