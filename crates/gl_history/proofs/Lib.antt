pub mod Journals
pub mod Positions
pub mod Remembering
pub mod Listing
pub mod Causing
pub mod Staying
pub mod Beginning
pub mod Coming
