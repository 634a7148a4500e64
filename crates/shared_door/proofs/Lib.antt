-- A number of one's own for each value: a seat of a table with one word for each, and one lemma for each of four steps.
-- `compare_exchange_with` hands
-- a value to its step, so no slot is needed.
-- What a clause says of one seat is read off the seat's view (`seat.me.0.given`): no model, and the ghost fields are equations on it.
-- A fact that is no proposition, as a trait's `fits`, goes into the `invariant` of an `impl Model`, whose view is a plain struct
-- (`Standing`).
-- `Closed` cannot speak of what a door shows later; "those that were to come are those given" (`HasGiven`) follows from each step.
-- Members of a naming trait are over types (`Naming<I, O>`); a law in a trait without calls is a member whose type is the fact.
-- CrossingLemmas has `IsSend` of each field and of the whole (`porch_send`). A caller gives every argument; the rows are in `Lts.antt` of
-- `rt check --generated DIR --start FN`. `IsSync` of a closure's captures: `three_sync`, by `recorded_sync` and `struct_sync`.
pub mod Steps
pub mod Keeping
pub mod RestLemmas
pub mod CrossingLemmas
