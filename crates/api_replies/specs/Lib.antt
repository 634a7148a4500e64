pub mod Name
pub mod Cause
pub mod Reply
pub mod View
pub mod Written
pub mod Pieces
