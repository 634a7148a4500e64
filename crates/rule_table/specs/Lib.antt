pub mod Control
pub mod View
pub mod RuleSet
pub mod Target
pub mod Refusal
pub mod WellFormed
pub mod Sound
pub mod Altered
