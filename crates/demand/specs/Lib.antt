pub mod Demanded
pub mod Counted
