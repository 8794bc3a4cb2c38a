pub mod Lists
pub mod Front
pub mod Along
pub mod Last
pub mod Lent
