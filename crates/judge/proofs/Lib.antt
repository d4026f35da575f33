pub mod Ranges
pub mod Turns
pub mod CameTo
pub mod JudgedLaws
