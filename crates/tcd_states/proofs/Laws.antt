pub mod Starts
pub mod InScratch
pub mod Cuts
pub mod Valid
pub mod Index
pub mod Walk
