pub mod Quick
pub mod Sums
pub mod Asking
