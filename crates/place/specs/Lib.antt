pub mod Numbers
pub mod There
pub mod Held
