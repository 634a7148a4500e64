pub mod DeadLetter
pub mod Queues
pub mod Places
pub mod Sound
