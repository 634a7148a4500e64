pub mod Fields
pub mod Change
pub mod Duty
pub mod Reading
pub mod ChangeReading
pub mod DutyReading
pub mod TargetReading
