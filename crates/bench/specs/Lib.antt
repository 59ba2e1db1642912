pub mod Phases
pub mod States
pub mod Avalanches
pub mod Checks
pub mod Answers
pub mod Waves
pub mod Rows
