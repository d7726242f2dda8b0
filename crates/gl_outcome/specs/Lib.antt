pub mod Outcomes
pub mod Compiling
pub mod Bounded
pub mod Staging
