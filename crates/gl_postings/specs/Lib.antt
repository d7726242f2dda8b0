pub mod Found
pub mod Bound
pub mod Postings
pub mod Indexed
