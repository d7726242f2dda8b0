pub mod Decimals
pub mod Finding
pub mod Counting
pub mod Reading
pub mod Ids
pub mod Spaces
pub mod Occurrences
pub mod Fronts
