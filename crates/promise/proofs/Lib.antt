pub mod Exactly
pub mod Tied
pub mod Promise
pub mod ShutOut
