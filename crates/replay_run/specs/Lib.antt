pub mod Selection
pub mod Replay
pub mod Replays
