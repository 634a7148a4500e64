pub mod Claim
pub mod Turned
pub mod Act
pub mod Link
pub mod Steps
pub mod Book
