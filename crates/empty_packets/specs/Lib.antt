pub mod WithoutPasses
pub mod LaterPackets
