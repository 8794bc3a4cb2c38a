pub mod Bytes
pub mod OneBlock
pub mod Steps
pub mod NextBlock
pub mod BandParts
