pub mod Kept
pub mod Archive
pub mod Archives
pub mod Sound
