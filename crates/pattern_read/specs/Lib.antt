pub mod Kind
pub mod Test
pub mod Value
pub mod Check
pub mod Refusal
pub mod Text
pub mod Reading
