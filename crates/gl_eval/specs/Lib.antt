pub mod Meaning
pub mod Actions
pub mod Changes
pub mod Patterns
pub mod Scopes
pub mod Fitting
pub mod Typing
