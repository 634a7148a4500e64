pub mod Draws
pub mod Messages
