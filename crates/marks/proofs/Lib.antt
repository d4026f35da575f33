pub mod Bits
pub mod Markings
pub mod Walking
pub mod Unique
