pub mod Balances
pub mod Augments
pub mod SendLoop
