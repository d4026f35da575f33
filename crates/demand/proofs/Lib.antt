pub mod Tasks
pub mod Answers
pub mod Unique
