pub mod Arrivals
pub mod Ending
pub mod FewBytes
pub mod Whole
