-- The router's work is three closures made in `serve_placed`, in a struct (`Clerk`) whose methods call them: `IsClerk` says of the closures'
-- `pre` and `post` what the methods need, and `serve_placed` shows it once, as `works`. The closures capture the hall: a bound of a closure
-- cannot name the hall of a book whose disk is a type parameter, and a pass only through `Seating`. That they may be shared: each capture by
-- hand.
pub mod JobsLemmas
pub mod MovingLemmas
pub mod ServedLemmas
pub mod VisitLemmas
