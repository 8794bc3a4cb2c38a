pub mod Trip
pub mod Numbers
pub mod Starts
