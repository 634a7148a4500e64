pub mod Act
pub mod Steps
pub mod Step
