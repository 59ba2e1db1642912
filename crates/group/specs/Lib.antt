pub mod Flames
pub mod Answers
pub mod Sums
