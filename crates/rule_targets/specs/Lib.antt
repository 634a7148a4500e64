pub mod Retry
pub mod Given
pub mod Input
pub mod Target
pub mod Checks
pub mod WellFormed
