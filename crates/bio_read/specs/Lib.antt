pub mod Reading
pub mod Chunks
