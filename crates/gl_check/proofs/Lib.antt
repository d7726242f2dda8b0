pub mod Walks
pub mod Lists
pub mod Given
pub mod Letters
