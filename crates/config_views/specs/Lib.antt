pub mod Views
pub mod Archives
pub mod Replays
