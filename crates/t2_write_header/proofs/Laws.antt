pub mod Fits
pub mod Header
