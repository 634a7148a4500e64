pub mod Decision
pub mod Decided
