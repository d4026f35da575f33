pub mod Answers
pub mod Search
pub mod Values
pub mod Onward
pub mod Following
pub mod Unique
