pub mod Standing
pub mod Steps
pub mod Pieces
pub mod Counting
pub mod Walking
pub mod Unique
