pub mod Numbers
pub mod Packets
pub mod Turns
