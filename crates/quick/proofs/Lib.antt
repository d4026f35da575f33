pub mod Sums
pub mod Pieces
pub mod Giving
pub mod Unique
