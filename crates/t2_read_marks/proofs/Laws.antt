pub mod Markers
