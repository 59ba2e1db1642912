pub mod Limited
pub mod Inflows
pub mod Entering
pub mod Leaving
pub mod Judging
pub mod Deciding
