pub mod Retry
pub mod Duties
pub mod Fate
pub mod Order
pub mod Sound
