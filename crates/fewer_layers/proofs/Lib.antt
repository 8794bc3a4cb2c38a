pub mod Replaced
pub mod Trees
pub mod Headers
pub mod Ranges
pub mod Starts
pub mod Alike
pub mod AlikeBelow
pub mod Examples
