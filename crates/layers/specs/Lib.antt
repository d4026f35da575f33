pub mod Step
pub mod Layer
