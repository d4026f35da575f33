pub mod Sums
pub mod Lengths
pub mod Unique
