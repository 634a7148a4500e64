-- The order: the desk (`DeskLemmas`), deliveries (`DidLemmas`, `SeatedLemmas`), the world around (`DoesLemmas`), messages (`ReplyLemmas`, `RepeatLemmas`, `BoundLemmas`), sessions
-- (`SessionLemmas`), and what a connection that ended owes (`OwesLemmas`). What holds of turns and acts is in router_history.
-- A law in a trait that needs lemmas cannot be stated in specs: `Did` says what was done beside all that was done before, so its laws are `append-nil` and
-- `append_assoc`.
-- A ghost field has to be a proposition, so a borrowed book's law is a ghost member of the trait (`sound`), which each method requires and ensures.
-- In `deliver_by` over a borrowed `&mut` the final book is in `given` of the lender: a pair of it and an equation that needs the ghost name.
-- A pass whose history is not known to be legal looks first (`makes_looked`): a look needs no bound on versions.
pub mod BoundLemmas
pub mod DeskLemmas
pub mod DidLemmas
pub mod DoesLemmas
pub mod OwesLemmas
pub mod RepeatLemmas
pub mod ReplyLemmas
pub mod SeatedLemmas
pub mod SessionLemmas
