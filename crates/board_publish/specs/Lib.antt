pub mod Numbers
pub mod Entered
pub mod MatcherView
pub mod Matchers
pub mod Found
