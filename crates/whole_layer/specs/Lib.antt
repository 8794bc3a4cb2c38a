pub mod SingleCalls
pub mod Several
