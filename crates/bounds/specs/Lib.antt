pub mod Tops
pub mod Bounds
