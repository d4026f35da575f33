pub mod Opens
pub mod Lowest
pub mod Choice
pub mod Ticks
pub mod Tapes
