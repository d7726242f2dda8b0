pub mod Json
pub mod Replies
pub mod Pages
pub mod Listings
pub mod Writing
