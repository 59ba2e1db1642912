pub mod Cuts
pub mod Decimals
pub mod Misfits
pub mod Heads
pub mod Verdicts
pub mod Uniques
