pub mod Asking
pub mod Giving
pub mod Unique
