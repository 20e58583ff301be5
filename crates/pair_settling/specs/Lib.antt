pub mod Settling
pub mod SettleLaws
