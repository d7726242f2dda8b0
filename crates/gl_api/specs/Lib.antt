pub mod Parameters
pub mod Search
pub mod Refusals
pub mod Callers
pub mod Commands
