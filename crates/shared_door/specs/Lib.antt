pub mod Tickets
pub mod Shown
pub mod Acts
pub mod Visits
pub mod Porches
pub mod Knocks
