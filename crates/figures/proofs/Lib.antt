pub mod Bits
pub mod Raises
pub mod Offered
pub mod Tiles
pub mod Unique
