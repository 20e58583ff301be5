pub mod Budget
pub mod Checks
pub mod Spending
