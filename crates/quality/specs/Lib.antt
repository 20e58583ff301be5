pub mod Offer
pub mod Sums
