pub mod FreshParts
pub mod Checks
