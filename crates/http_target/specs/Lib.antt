pub mod Endpoint
pub mod Request
pub mod Reply
