pub mod Sizes
pub mod Moving
