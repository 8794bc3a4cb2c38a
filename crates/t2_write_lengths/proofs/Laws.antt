pub mod Fields
pub mod Passes
pub mod OneSegment
