pub mod Versions
pub mod History
pub mod Keeping
pub mod Lawful
pub mod Entries
