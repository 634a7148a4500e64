pub mod Faults
pub mod Source
pub mod Sink
pub mod Clock
pub mod Memory
pub mod Link
pub mod Disk
