-- `iter().take_while(..).count()`: `count_from_yields_List` over `YieldsList-from_take_while`, and one induction (`through_front`).
mod MessageLemmas
pub mod QueueLemmas
pub mod PlaceLemmas
