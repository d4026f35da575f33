pub mod Bounds
pub mod Room
pub mod Readings
pub mod Unique
