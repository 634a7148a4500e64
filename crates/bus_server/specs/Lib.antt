pub mod Run
pub mod Journal
pub mod Seated
pub mod Serve
pub mod ServeJournal
pub mod Words
pub mod Opened
