pub mod Work
pub mod Shown
pub mod Stay
