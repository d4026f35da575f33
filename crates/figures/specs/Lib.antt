pub mod Figures
pub mod Offers
