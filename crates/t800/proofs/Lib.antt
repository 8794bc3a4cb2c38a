pub mod Table
pub mod Packets
