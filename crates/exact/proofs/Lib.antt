pub mod Giving
pub mod Unique
