pub mod Steps
pub mod Packed
