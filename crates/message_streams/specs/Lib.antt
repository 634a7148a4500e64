pub mod Incoming
pub mod Farewell
pub mod Reply
