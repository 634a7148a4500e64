pub mod AnchorView
pub mod Anchors
pub mod Keys
pub mod Table
pub mod RuleView
pub mod View
pub mod Rules
pub mod Matching
