pub mod Keeping
pub mod Filling
pub mod Searching
pub mod Bounding
