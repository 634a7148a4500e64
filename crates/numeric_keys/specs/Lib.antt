pub mod Marks
pub mod Number
pub mod NumberReader
pub mod Spelling
pub mod Significand
pub mod Ranges
pub mod RangeTree
