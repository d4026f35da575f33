pub mod States
pub mod Asking
