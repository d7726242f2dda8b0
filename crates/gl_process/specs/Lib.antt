pub mod Once
pub mod Journal
