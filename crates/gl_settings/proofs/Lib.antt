pub mod Mapping
pub mod Placing
pub mod Limiting
