pub mod FreeBits
pub mod WriteChunks
pub mod Packed
