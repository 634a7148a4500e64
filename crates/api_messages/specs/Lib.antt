pub mod Fields
pub mod Lines
pub mod Messages
pub mod Between
pub mod Reading
