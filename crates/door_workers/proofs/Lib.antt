-- Passes are met one by one after the last worker has stopped (`dismiss`), with `Learns` of the caller's pass in the invariant;
-- `served_later` carries `HasServed` on. That the closure of `for_each_mut` may be shared: each of the four captures by hand (`four_sync`),
-- with `porch_send`.
-- An arm that is never reached waits forever, and the clauses are about the other arms (`end_of`).
pub mod ServingLemmas
