pub mod Tapes
pub mod Unique
