pub mod Batch
pub mod Reading
pub mod Journal
pub mod Redo
pub mod Recovery
pub mod Named
pub mod Home
