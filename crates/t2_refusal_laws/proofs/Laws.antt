pub mod WriterState
pub mod NotRefused
pub mod Accepted
pub mod Numbers
