pub mod Record
pub mod Encoding
pub mod Rules
pub mod Judgement
pub mod Refusal
pub mod Place
