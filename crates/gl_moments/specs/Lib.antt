pub mod Inside
pub mod Minutes
pub mod Moments
