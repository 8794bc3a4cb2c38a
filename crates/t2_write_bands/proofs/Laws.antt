pub mod BandRows
pub mod AllBlocks
pub mod TwoBands
pub mod AllBands
