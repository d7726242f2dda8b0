pub mod Numbers
pub mod Shifting
pub mod Naming
pub mod Setting
pub mod Moments
pub mod Objects
