pub mod Path
pub mod Leaves
pub mod Walk
pub mod LeafView
pub mod Wanted
