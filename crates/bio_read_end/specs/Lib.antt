pub mod HeaderEnd
