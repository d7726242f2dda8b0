pub mod Moments
pub mod Decoding
pub mod Putting
