pub mod Ahead
pub mod Naming
pub mod Pairs
