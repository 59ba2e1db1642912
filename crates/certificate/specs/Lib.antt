pub mod Verdicts
pub mod Fits
pub mod Formulas
pub mod Sets
