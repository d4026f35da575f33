pub mod States
pub mod Taped
pub mod Forks
