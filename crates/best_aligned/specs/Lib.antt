pub mod Aligned
pub mod Offers
