pub mod Lists
pub mod BlocksLeft
pub mod Refusal
