pub mod Seeking
pub mod Reading
