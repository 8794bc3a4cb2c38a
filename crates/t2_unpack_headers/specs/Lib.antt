pub mod Segments
pub mod Cursors
pub mod Windows
