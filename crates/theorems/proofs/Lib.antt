pub mod Calls
pub mod Exports
pub mod Gathered
pub mod Example
pub mod LayersExample
