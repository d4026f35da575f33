pub mod Reaches
pub mod Strides
pub mod Figures
pub mod Bounds
pub mod Pieces
