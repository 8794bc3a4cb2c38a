pub mod InRange
