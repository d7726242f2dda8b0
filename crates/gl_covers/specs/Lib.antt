pub mod Covers
pub mod Suspects
