pub mod ReadBlocks
pub mod ReadBands
