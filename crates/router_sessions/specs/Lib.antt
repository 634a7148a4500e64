pub mod Desk
pub mod Delivery
pub mod Repeating
pub mod Seated
pub mod Reply
pub mod Conversing
