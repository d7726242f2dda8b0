pub mod Seeing
pub mod Permitting
