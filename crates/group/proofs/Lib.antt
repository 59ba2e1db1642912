pub mod Kindling
pub mod Visits
pub mod Fires
pub mod Ends
pub mod Grains
pub mod Rows
