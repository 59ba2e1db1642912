pub mod Layers
pub mod Earths
pub mod Merges
pub mod Cuts
pub mod Earthed
pub mod Uplifts
pub mod Merged
pub mod Cutting
