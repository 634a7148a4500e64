-- Places of a fixed format: one small function a step (`two_digits`, `marked`), "these bytes and this rest, or no such bytes", proves with
-- no answer.
-- One cut lemma a step gives the uniqueness of the whole (`writes_once`), from which both directions of the reader follow.
-- `bytes.iter().all(|byte| ..)` proves `result ≡ list_all test bytes` as the whole body of a function, and not after `&&`.
pub mod Found
pub mod ClockLemmas
pub mod Utf8Lemmas
