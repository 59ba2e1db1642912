pub mod Keeping
pub mod Steps
pub mod Sums
pub mod Waving
pub mod Totals
pub mod Refilled
