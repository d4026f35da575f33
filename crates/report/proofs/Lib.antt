pub mod Runs
pub mod Room
pub mod Giving
pub mod Unique
