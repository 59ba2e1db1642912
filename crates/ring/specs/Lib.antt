pub mod Rings
pub mod Round
