pub mod Values
pub mod Functions
pub mod Letters
pub mod Arguments
pub mod Checking
pub mod Codes
