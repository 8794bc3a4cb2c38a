pub mod Refusals
pub mod Cuts
pub mod SingleCalls
pub mod Steps
pub mod Several
pub mod OnePrecinct
