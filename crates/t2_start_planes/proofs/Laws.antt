pub mod Runs
pub mod BlockRows
pub mod ZeroPlanes
