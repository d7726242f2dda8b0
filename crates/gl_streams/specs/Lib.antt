pub mod Matching
pub mod Ids
