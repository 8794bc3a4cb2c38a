pub mod Ranges
pub mod Nodes
pub mod Segments
pub mod Blocks
pub mod AfterReads
