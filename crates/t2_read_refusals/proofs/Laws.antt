pub mod Refusals
pub mod Words
