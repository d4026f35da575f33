pub mod Answers
pub mod Meeting
pub mod Ranges
pub mod Lent
