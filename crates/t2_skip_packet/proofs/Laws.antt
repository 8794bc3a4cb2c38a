pub mod Numbers
pub mod FirstBit
pub mod Parts
pub mod Skipping
pub mod Within
