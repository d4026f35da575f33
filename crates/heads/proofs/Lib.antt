pub mod Gains
pub mod Pairs
pub mod Backward
pub mod Unique
