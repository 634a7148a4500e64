pub mod Time
pub mod Clock
