pub mod Tops
pub mod Bounding
pub mod Adding
pub mod Summing
