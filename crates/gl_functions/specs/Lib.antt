pub mod Contents
pub mod Worlds
pub mod Operations
pub mod Calls
