pub mod Report
pub mod Parts
