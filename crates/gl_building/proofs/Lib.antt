pub mod Causes
pub mod Fitting
