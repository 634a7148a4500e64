pub mod Pattern
pub mod View
pub mod Holds
pub mod Alternatives
pub mod PatternView
pub mod Meets
pub mod Frames
