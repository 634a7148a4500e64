pub mod Number
pub mod Table
pub mod Command
pub mod Line
pub mod Fault
pub mod Reading
