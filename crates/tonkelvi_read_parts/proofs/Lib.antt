pub mod FromWords
pub mod Structs
