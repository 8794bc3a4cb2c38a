pub mod BandRows
pub mod AllBlocks
