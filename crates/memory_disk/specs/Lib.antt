pub mod Tape
pub mod HeldDisk
