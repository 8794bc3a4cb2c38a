pub mod Front
pub mod Put
