pub mod PassCount
pub mod CommaCode
