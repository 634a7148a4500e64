-- A view of a field that computes (absent, once with the value, repeated) makes every rule on it a function, and the code's `match` proves
-- with no file.
-- `self.rest()` in place of `&self.buffer[self.start..]` gives the bytes by one clause, in the model's words.
-- The parser is asked about the first 16,384 bytes; `refused_stays` carries each refusal over to all bytes.
-- The reason that the fewest bytes show is defined on the first bytes alone (`first_bytes`), with the other reasons excluded where they
-- meet.
-- A place that the parser does not report: a total function on the list (`after_lines`), a lemma for each piece of the grammar (`no_feed`),
-- and the
-- toolchain's piece lemmas (`Section_skip`, `RequestStart_deterministic`).
-- A buffer on the stack: `copy_from_slice` in a function of its own, with `take (at + length bytes) out.new ≡ take at out.old ++ bytes`,
-- needs no file.
-- If two arms have the same call in their guards, the facts of the second are in `c.if-CALL-2.ensures`, with the result put in.
pub mod FieldLemmas
pub mod LineLemmas
pub mod MessageLemmas
pub mod FrontLemmas
