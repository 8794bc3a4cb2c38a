pub mod Bare
pub mod Skips
