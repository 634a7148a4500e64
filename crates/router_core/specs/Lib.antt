pub mod Tables
pub mod Admitted
pub mod Parts
pub mod Keeping
pub mod Ready
pub mod Steps
pub mod Replaying
