pub mod Taken
pub mod HeaderTaken
pub mod Inside
pub mod Reached
pub mod Counting
pub mod BlockBits
