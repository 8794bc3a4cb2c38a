pub mod Segments
pub mod Sizes
pub mod Looks
pub mod Windows
pub mod Cursors
pub mod Copies
