pub mod Request
pub mod Bounds
pub mod Batch
pub mod View
pub mod Verdict
pub mod Matching
pub mod Duties
