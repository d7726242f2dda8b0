pub mod Settings
pub mod Names
pub mod Patterns
pub mod Limits
pub mod Codes
pub mod Inside
