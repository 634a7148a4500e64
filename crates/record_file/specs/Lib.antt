pub mod Records
pub mod Kept
pub mod State
pub mod Next
pub mod FileKind
pub mod Append
pub mod Text
