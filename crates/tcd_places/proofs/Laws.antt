pub mod Before
pub mod Rows
pub mod BandBlocks
pub mod BandRows
