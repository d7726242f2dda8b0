pub mod Paging
pub mod Candidates
pub mod Ordering
pub mod Leaving
pub mod Coming
mod Rows
