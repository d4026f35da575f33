pub mod Rows
pub mod Widths
pub mod Clearing
pub mod Searching
pub mod Unique
