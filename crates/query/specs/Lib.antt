pub mod Answer
pub mod Query
pub mod Memory
