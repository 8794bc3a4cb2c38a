pub mod PassTable
pub mod CommaBits
