pub mod Sums
pub mod Better
pub mod Listing
pub mod Plans
pub mod PlanLaws
