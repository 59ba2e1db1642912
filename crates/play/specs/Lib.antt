pub mod Plays
pub mod LeastCounts
pub mod Turns
pub mod Whole
