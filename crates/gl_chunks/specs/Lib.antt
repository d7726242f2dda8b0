pub mod Chunks
pub mod Growing
pub mod Openings
pub mod Rows
pub mod Answers
