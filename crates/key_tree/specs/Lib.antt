pub mod Entries
pub mod Subtree
pub mod Balance
