pub mod Keeping
pub mod Parts
pub mod Searches
pub mod Writing
pub mod Groups
pub mod Patterns
