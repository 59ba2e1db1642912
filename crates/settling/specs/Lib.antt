pub mod Firings
pub mod Marks
pub mod Settlings
pub mod Searches
pub mod Reaching
pub mod Waits
