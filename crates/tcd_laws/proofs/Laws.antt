pub mod TreeLevels
pub mod Bands
pub mod AnyOf
pub mod BlockPlanes
pub mod Faults
pub mod FirstWords
pub mod ValidStates
