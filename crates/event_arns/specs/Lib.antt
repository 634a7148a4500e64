pub mod Arns
