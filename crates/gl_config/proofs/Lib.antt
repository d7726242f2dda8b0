pub mod Refusing
pub mod Patterns
pub mod Telling
pub mod Extracting
pub mod Staging
