pub mod Converting
pub mod Extraction
pub mod Groups
pub mod Objects
pub mod Refusals
pub mod Views
