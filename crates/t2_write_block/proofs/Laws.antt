pub mod OneBlock
pub mod Rows
