pub mod OnePass
pub mod Drill
