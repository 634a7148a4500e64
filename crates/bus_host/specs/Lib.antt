pub mod HostFault
pub mod Knock
pub mod Host
pub mod Doors
pub mod Plans
pub mod Stock
pub mod Files
pub mod Clocks
