pub mod Signature
pub mod Lengths
pub mod Key
pub mod Range
pub mod Hits
pub mod Rows
pub mod Adds
pub mod Index
