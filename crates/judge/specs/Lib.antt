pub mod Told
pub mod Reading
